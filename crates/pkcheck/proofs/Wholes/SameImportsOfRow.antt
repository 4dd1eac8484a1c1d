-- Two yeses to the same row of pickles list the same imports: pickle by pickle, both have the same
-- instructions and the same imports, so both are behind the same pickles.
use Rattle.std.proofs.Common.{◌≡◌, ℕ, List, [], ◌∷◌, ◌++◌, length, Some}
use Rattle.std.proofs.Common.{refl, sym, ap, subst, ◌∙◌, arith, length-append}
use Rattle.std.specs.Io.KnownBytes.{IsAtEnd}
use Rattle.pkops.specs.Limits.{Bounds}
use Rattle.pkops.specs.Payloads.{payload_limit}
use Rattle.pkops.specs.Spelling.{Instruction}
use Rattle.pkread.specs.Rows.{Sight, Takes}
use Rattle.pkread.specs.Sequence.{StopIsLast, spellings}
use Rattle.pkread.specs.Sequences.{OneSequence}
use Rattle.pkmachine.specs.Knowledge.{Policy}
use Rattle.pkmachine.specs.RowRuns.{Pickle, imports_of_all}
use Rattle.pkimport.specs.Import.{Asked}
use Rattle.pkcheck.specs.declared.loading.Loading.{Loading}
use Rattle.pkcheck.specs.RowOfPickles.{AreAccepted, begins, bytes_of_all}
use Rattle.pkcheck.specs.SameImports.{SameImportsOfRow}
use Rattle.pkcheck.proofs.Wholes.Exclusive.{at_end, consumed}
use Rattle.pkcheck.proofs.Wholes.RowOfPickles.{some_byte}
use Rattle.pkcheck.proofs.Wholes.SameImports.{same_imports}

abbrev pickle_of : List Instruction → List Asked → Pickle
pickle_of instructions imports = record { instructions = instructions; imports = imports }

same_pickle : (x y : Pickle) → x.instructions ≡ y.instructions → x.imports ≡ y.imports → x ≡ y
same_pickle x y e f =
    ap (λ is. pickle_of is x.imports) e ∙ ap (λ asked. pickle_of y.instructions asked) f

-- nothing is left of a row behind its pickles, so another one can't have one more
none_more : (old there here after : Sight) (bytes : List ℕ) (is : List Instruction)
    → old.left ≡ Some bytes → IsAtEnd there.left → Takes old there [] → here.left ≡ Some bytes
    → StopIsLast is → Takes here after (spellings is) → {A : Type 0} → A
none_more old there here after bytes is known ends nothing same stops more =
    let c = consumed old bytes [] there known nothing in
    let d = consumed here bytes (spellings is) after same more in
    absurd (omega (
      arith,
      some_byte is stops,
      ap length (sym (c.2 ∙ at_end there.left c.0 c.1 ends) ∙ d.2),
      length-append (spellings is) d.0,
    ))

module _ (one : OneSequence) (loading : Loading) (policy other_policy : Policy)
    (limits other_limits : Bounds) (new after : Sight) (ends : IsAtEnd new.left)
    (other_ends : IsAtEnd after.left) where
  in_turn : (xs ys done : List Pickle) (bytes : List ℕ) (old other : Sight)
      → old.left ≡ Some bytes → other.left ≡ Some bytes
      → AreAccepted loading policy limits old new done xs
      → AreAccepted loading other_policy other_limits other after done ys → xs ≡ ys
  in_turn [] [] done bytes old other is also a b = refl
  in_turn [] (y ∷ ys) done bytes old other is also a (between, (k, is_y), b) =
      none_more old new other between bytes k.instructions is ends a also k.sequence.stops k.bytes
  in_turn (x ∷ xs) [] done bytes old other is also (middle, (h, is_x), a) b =
      none_more other after old middle bytes h.instructions also other_ends b is h.sequence.stops
      h.bytes
  in_turn (x ∷ xs) (y ∷ ys) done bytes old other is also
      (middle, (h, is_x), a) (between, (k, is_y), b) =
      let c = consumed old bytes (spellings h.instructions) middle is h.bytes in
      let d = consumed other bytes (spellings k.instructions) between also k.bytes in
      let u = one (payload_limit limits) (payload_limit other_limits) h.instructions
      k.instructions c.0 d.0 h.sequence k.sequence (sym c.2 ∙ d.2) in
      let listed = same_imports one loading.old_strings (begins loading.memo done) policy
      other_policy limits other_limits bytes old middle other between _ _ x.imports y.imports is
      also h k in
      let alike : x ≡ y = same_pickle x y (sym is_x ∙ u.0 ∙ is_y) listed.1 in
      let others = in_turn xs ys (done ++ x ∷ []) c.0 middle between c.1
      (d.1 ∙ ap Some (sym u.1)) a
      (subst (λ z. AreAccepted loading other_policy other_limits between after (done ++ z ∷ []) ys)
      (sym alike) b) in
      ap (λ z. z ∷ xs) alike ∙ ap (λ zs. y ∷ zs) others

pub same_imports_of_row : OneSequence → SameImportsOfRow
same_imports_of_row one loading policy other_policy limits other_limits bytes old new other after
    taken pickles other_taken other_pickles imports other_imports known same h k =
    let e = in_turn one loading policy other_policy limits other_limits new after h.ends k.ends
    h.row k.row [] bytes old other known same h.each k.each in (
      h.count ∙ ap (λ row. length (bytes_of_all row)) e ∙ sym k.count,
      h.number ∙ ap length e ∙ sym k.number,
      h.listed ∙ ap imports_of_all e ∙ sym k.listed,
    )
