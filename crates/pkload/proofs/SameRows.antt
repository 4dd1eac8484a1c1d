-- Two rows of accepted pickles in the same bytes.
use Rattle.std.proofs.Common.{◌≡◌, ◌+◌, ℕ, suc, ◌⊎◌, inl, inr, List, [], ◌∷◌, ◌++◌, length}
use Rattle.std.proofs.Common.{append-nil, append_assoc, length-append, Some, refl, sym, ap, subst}
use Rattle.std.proofs.Common.{◌∙◌, arith}
use Rattle.std.proofs.lemmas.Grind.{flat_map-append}
use Rattle.std.specs.Io.KnownBytes.{IsAtEnd}
use Rattle.std.specs.Prelude.{flat_map}
use Rattle.pkops.specs.Limits.{Bounds}
use Rattle.pkops.specs.Payloads.{payload_limit}
use Rattle.pkops.specs.Spelling.{Instruction}
use Rattle.pkread.specs.Rows.{Sight}
use Rattle.pkread.specs.Sequence.{StopIsLast, spellings}
use Rattle.pkread.specs.Sequences.{OneSequence}
use Rattle.pkmachine.specs.Knowledge.{Policy}
use Rattle.pkcheck.specs.RowOfPickles.{AreAccepted, IsAcceptedBehind, bytes_of_all}
use Rattle.pkmachine.specs.RowRuns.{Pickle, sequences_of}
use Rattle.pkcheck.specs.declared.loading.Loading.{Loading}
use Rattle.pkload.proofs.Loading.{sequences_with}
use Rattle.pkload.proofs.SameBytes.{consumed}

-- as many pickles with the same instructions
pub same_count : (xs ys : List Pickle) → sequences_of xs ≡ sequences_of ys → length xs ≡ length ys
same_count xs ys e = sym (counted xs) ∙ ap length e ∙ counted ys
  where
    counted : (zs : List Pickle) → length (sequences_of zs) ≡ length zs
    counted [] = refl
    counted (z ∷ zs) = ap suc (counted zs)

pub same_bytes : (xs ys : List Pickle) → sequences_of xs ≡ sequences_of ys
    → length (bytes_of_all xs) ≡ length (bytes_of_all ys)
same_bytes xs ys e = ap (λ ps. length (flat_map spellings ps)) e

bytes_with : (xs : List Pickle) (x : Pickle)
    → length (bytes_of_all (xs ++ x ∷ []))
    ≡ length (bytes_of_all xs) + length (spellings x.instructions)
bytes_with xs x = ap (λ ps. length (flat_map spellings ps)) (sequences_with xs x)
    ∙ ap length (flat_map-append spellings (sequences_of xs) (x.instructions ∷ []))
    ∙ omega (
      arith,
      length-append (bytes_of_all xs) (flat_map spellings (x.instructions ∷ [])),
      ap length (append-nil (spellings x.instructions)),
    )

pub none_spelled : (front : List Instruction) (i : Instruction)
    → spellings (front ++ i ∷ []) ≡ [] → ⊥
none_spelled [] i e = cc
none_spelled (j ∷ front) i e = cc

-- an accepted pickle takes bytes
pub takes_some : (is : List Instruction) → StopIsLast is → spellings is ≡ [] → ⊥
takes_some is s e = none_spelled s.0 s.1 (sym (ap spellings s.2) ∙ e)

pub none_left : (here : Sight) (bytes : List ℕ) → here.left ≡ Some bytes → IsAtEnd here.left
    → bytes ≡ []
none_left here bytes is end = subst IsAtEnd is end

pub first_empty : (a b : List ℕ) → [] ≡ a ++ b → a ≡ []
first_empty [] b e = refl
first_empty (x ∷ a) b e = cc

module _ (loading : Loading) (policy : Policy) (limits : Bounds) (total : ℕ) where
  -- the same pickles, after which the same bytes are left
  pub record Alike (xs ys : List Pickle) (here there : Sight) : Type 0 where
    pub same : sequences_of xs ≡ sequences_of ys
    pub bytes : List ℕ
    pub left : here.left ≡ Some bytes
    pub other : there.left ≡ Some bytes
    pub count : total ≡ length (bytes_of_all xs) + length bytes

  -- one row has the pickles of the other, and then another one
  pub record Longer (xs ys : List Pickle) (there : Sight) : Type 0 where
    pub before : List Pickle
    pub next : Pickle
    pub more : List Pickle
    pub parts : xs ≡ before ++ next ∷ more
    pub same : sequences_of before ≡ sequences_of ys
    pub between : Sight
    pub after : Sight
    pub accepted : IsAcceptedBehind loading policy limits between after before next
    pub bytes : List ℕ
    pub left : between.left ≡ Some bytes
    pub other : there.left ≡ Some bytes
    pub count : total ≡ length (bytes_of_all before) + length bytes

  abbrev pub Compared : List Pickle → List Pickle → Sight → Sight → Type 0
  Compared xs ys here there =
      Alike xs ys here there ⊎ (Longer xs ys there ⊎ Longer ys xs here)

  module _ (unique : OneSequence) where
    pub compare : (xs ys done gone : List Pickle) (bytes : List ℕ) (old here other there : Sight)
        → sequences_of done ≡ sequences_of gone
        → total ≡ length (bytes_of_all done) + length bytes
        → old.left ≡ Some bytes → other.left ≡ Some bytes
        → AreAccepted loading policy limits old here done xs
        → AreAccepted loading policy limits other there gone ys
        → Compared (done ++ xs) (gone ++ ys) here there
    compare [] [] done gone bytes old here other there e n is also a b =
        let c = consumed old bytes [] here is a in
        let d = consumed other bytes [] there also b in
        inl
        (record {
          same = ap sequences_of (append-nil done) ∙ e
              ∙ ap sequences_of (sym (append-nil gone));
          bytes = bytes;
          left = c.1 ∙ ap Some (sym c.2);
          other = d.1 ∙ ap Some (sym d.2);
          count = omega (arith, n, ap (λ l. length (bytes_of_all l)) (append-nil done));
        })
    compare (x ∷ xs) [] done gone bytes old here other there e n is also a b =
        let d = consumed other bytes [] there also b in
        inr (inl
        (record {
          before = done;
          next = x;
          more = xs;
          parts = refl;
          same = e ∙ ap sequences_of (sym (append-nil gone));
          between = old;
          after = a.0;
          accepted = a.1;
          bytes = bytes;
          left = is;
          other = d.1 ∙ ap Some (sym d.2);
          count = n;
        }))
    compare [] (y ∷ ys) done gone bytes old here other there e n is also a b =
        let c = consumed old bytes [] here is a in
        inr (inr
        (record {
          before = gone;
          next = y;
          more = ys;
          parts = refl;
          same = sym e ∙ ap sequences_of (sym (append-nil done));
          between = other;
          after = b.0;
          accepted = b.1;
          bytes = bytes;
          left = also;
          other = c.1 ∙ ap Some (sym c.2);
          count = omega (arith, n, same_bytes done gone e);
        }))
    compare (x ∷ xs) (y ∷ ys) done gone bytes old here other there e n is also
        (middle, (h, is_x), a) (between, (k, is_y), b) =
        let c = consumed old bytes (spellings h.instructions) middle is h.bytes in
        let d = consumed other bytes (spellings k.instructions) between also k.bytes in
        let u = unique (payload_limit limits) (payload_limit limits) h.instructions k.instructions
        c.0 d.0 h.sequence k.sequence (sym c.2 ∙ d.2) in
        let alike : x.instructions ≡ y.instructions = sym is_x ∙ u.0 ∙ is_y in
        subst (λ l. Compared l (gone ++ y ∷ ys) here there) (append_assoc done (x ∷ []) xs)
        (subst (λ l. Compared ((done ++ x ∷ []) ++ xs) l here there)
        (append_assoc gone (y ∷ []) ys)
        (compare xs ys (done ++ x ∷ []) (gone ++ y ∷ []) c.0 middle here between there
        (sequences_with done x ∙ ap (λ l. l ++ x.instructions ∷ []) e
        ∙ ap (λ p. sequences_of gone ++ p ∷ []) alike ∙ sym (sequences_with gone y))
        (omega (
          arith,
          n,
          bytes_with done x,
          ap (λ l. length (spellings l)) is_x,
          ap length c.2,
          length-append (spellings h.instructions) c.0,
        ))
        c.1 (d.1 ∙ ap Some (sym u.1)) a b))
