-- The bytes of an old string as a function are those that it names.
use Rattle.std.proofs.Common.{MatchOption, ◌≡◌, ◌↔◌, ℕ, ◌-◌, true, suc, eqb, leb, List, [], ◌∷◌}
use Rattle.std.proofs.Common.{◌++◌, length, take, drop, get_or, Option, Some, None, refl, sym, ap}
use Rattle.std.proofs.Common.{◌∙◌, arith, inl, inr, flat_map, option_map, take_at, length-append}
use Rattle.std.proofs.lemmas.Bool.{and_parts, cases_Bool, eqb-true, eq-eqb, leb-true, le-leb}
use Rattle.std.proofs.Math.Seq.{get_or-append_seam}
use Rattle.pkops.specs.declared.op.Op.TheVariants as op
use Rattle.pkops.specs.OldBytes.{NamesBytes, NamesBytesBy, SpellsBytes, bytes_between, bytes_by}
use Rattle.pkops.specs.OldBytes.{bytes_of_line, is_in_quotes, old_bytes}
use Rattle.pkops.specs.OldStrings.{IsQuote, print_item}
use Rattle.pkops.specs.Spelling.{Op, Argument, Line, Counted, Instruction}
use Rattle.pkops.proofs.ContentsRules.OldStrings.{between_spelled, framed, is_quote_of, quote_is}
use Rattle.pkops.proofs.ContentsRules.OldStrings.{spelled_between}

-- quotes around an inside: what is between them is read
quoted : (quote : ℕ) (inside : List ℕ) → IsQuote quote
    → bytes_of_line (quote ∷ inside ++ quote ∷ []) ≡ bytes_between quote inside
quoted quote inside q =
    let line = quote ∷ inside ++ quote ∷ [] in
    let len : length line ≡ suc (suc (length inside)) =
    omega (arith, length-append inside (quote ∷ [])) in
    let two : length line - 2 ≡ length inside = omega (arith, len) in
    let one : length line - 1 ≡ suc (length inside) = omega (arith, len) in
    let last : get_or (inside ++ quote ∷ []) (length inside) 0 ≡ quote =
    get_or-append_seam inside quote [] 0 in
    let long : leb 2 (length line) ≡ true = le-leb _ _ (omega (arith, len)) in
    rw (
      long,
      two,
      one,
      last,
      take_at inside (quote ∷ []) (length inside) refl,
      is_quote_of quote q,
      eq-eqb quote quote refl,
    ) refl

line_forth : (line bytes : List ℕ) → SpellsBytes line bytes → bytes_of_line line ≡ Some bytes
line_forth line bytes (quote, items, q, all, e, b) =
    ap bytes_of_line e
    ∙ (quoted quote (flat_map print_item items) q
    ∙ (between_spelled quote (flat_map print_item items) items all refl
    ∙ ap (λ (t : List ℕ). Some t) (sym b)))

line_back : (line bytes : List ℕ) → bytes_of_line line ≡ Some bytes → SpellsBytes line bytes
line_back line bytes e = elim (cases_Bool (is_in_quotes line)) [
  | inr n ↦ absurd (let f = rw n at e in cc)
  | inl h ↦
      let quote = get_or line 0 0 in
      let last = get_or line (length line - 1) 0 in
      let inside = take (length line - 2) (drop 1 line) in
      let p = and_parts (leb 2 (length line)) _ h in
      let q = and_parts _ (eqb last quote) p.1 in
      let s = spelled_between quote inside bytes (rw h at e) in (
        quote,
        s.0,
        quote_is quote q.0,
        s.1,
        framed line (leb-true _ _ p.0)
            ∙ (ap (λ (t : List ℕ). quote ∷ t ++ last ∷ []) s.2
            ∙ ap (λ (x : ℕ). quote ∷ flat_map print_item s.0 ++ x ∷ [])
            (eqb-true last quote q.1)),
        s.3,
      )
]

forth : (o : Op) (a : Argument) (bytes : List ℕ) → NamesBytesBy o a bytes
    → bytes_by o a ≡ Some bytes
forth op.String (Line line) bytes h = line_forth line bytes h
forth op.BinString (Counted payload) bytes h = ap (λ (t : List ℕ). Some t) (sym h)
forth op.ShortBinString (Counted payload) bytes h = ap (λ (t : List ℕ). Some t) (sym h)
forth _ _ bytes h = absurd h

back : (o : Op) (a : Argument) (bytes : List ℕ) → bytes_by o a ≡ Some bytes → NamesBytesBy o a bytes
back op.String (Line line) bytes e = line_back line bytes e
back op.BinString (Counted payload) bytes e = cc
back op.ShortBinString (Counted payload) bytes e = cc
back _ _ bytes e = absurd cc

-- what is answered as the function says is answered as the relation says
pub answered : {A : Type 0} (i : Instruction) (view : A → List ℕ) (bytes : Option A)
    → option_map view bytes ≡ old_bytes i → MatchOption bytes
    ((named : List ℕ) → NamesBytes i named → ⊥) (λ x. NamesBytes i (view x))
answered i view None e = λ named h. let f = forth i.op i.arg named h in cc
answered i view (Some x) e = back i.op i.arg (view x) (sym e)

-- an instruction names the bytes that the function gives, and no other
pub old_bytes_are_named : (i : Instruction) (bytes : List ℕ)
    → NamesBytes i bytes ↔ (old_bytes i ≡ Some bytes)
old_bytes_are_named i bytes = (forth i.op i.arg bytes, back i.op i.arg bytes)
