-- Each instruction of the slim form is good, admitted and within the limits.
use Rattle.std.proofs.Common.{◌≡◌, ℕ, suc, ◌<◌, ◌≤◌, ◌^◌, Bool, true, false, cond, ltb, List, []}
use Rattle.std.proofs.Common.{◌∷◌, ◌++◌, length, get_or, Option, inl, inr, refl, sym, ap, subst}
use Rattle.std.proofs.Common.{◌∙◌, arith}
use Rattle.std.specs.Prelude.{◌≢◌, ◌⊎◌}
use Rattle.std.specs.List.{AllByRecursion}
use Rattle.std.specs.Char.{is_ascii_digit}
use Rattle.std.specs.Int.{IsInRange}
use Rattle.std.specs.Fmt.{decimal}
use Rattle.std.proofs.lemmas.Bool.{and_from, cases_eq, le-leb, ltb-true}
use Rattle.std.proofs.lemmas.Fmt.{decimal_digit, decimal_nonempty, first_decimal, digits_decimal}
use Rattle.std.proofs.lemmas.Fmt.{length-decimal-le}
use Rattle.std.proofs.lemmas.Grind.{get_or_default_zero}
use Rattle.std.proofs.lemmas.Str.Parse.{numerals_by_value, tells_by_index}
use Rattle.pkops.specs.declared.Op.{Op}
use Rattle.pkops.specs.declared.Op.TheVariants as op
use Rattle.pkops.specs.Numerals.{IsPositive, IsNatural, IsMemoNumber, is_nonzero_digit}
use Rattle.pkops.specs.Spelling.{IsLine, Instruction, instruction}
use Rattle.pkread.specs.Admission.{IsAllowed}
use Rattle.pkmachine.specs.Effects.{effect_of}
use Rattle.pkops.specs.declared.Op.TheVariants.{Stop}
use Rattle.pkopt.specs.Slim.{form_of, argument_for, left_of, slim_from, slim}
use Rattle.pkopt.specs.Writers.{Writes, after, sources, new_number, after_all}
use Rattle.pkopt.proofs.SlimForm.NewForms.{NamesNumber, decimal_says, left_by}
use Rattle.pkopt.proofs.MemoWrites.NewNumbers.{after_all_le}

-- each instruction is allowed, and only the last is STOP
abbrev pub EndsInStop : ℕ → List Instruction → Type 0
EndsInStop limit [] = ⊥
EndsInStop limit (i ∷ is) =
    IsAllowed limit i × (((i.op ≡ Stop) × (is ≡ [])) ⊎ ((i.op ≢ Stop) × EndsInStop limit is))

digit_at : (n : ℕ) → n < 2 ^ 64 → (k : ℕ) → k < length (decimal n)
    → IsInRange 48 57 (get_or (decimal n) k 0)
digit_at n lt = digits_decimal (numerals_by_value _ tells_by_index) n lt

digit_test : (c : ℕ) → IsInRange 48 57 c → is_ascii_digit c ≡ true
digit_test c h = and_from _ _ (le-leb 48 c h.0) (le-leb c 57 h.1)

nonzero_test : (c : ℕ) → 48 < c → IsInRange 48 57 c → is_nonzero_digit c ≡ true
nonzero_test c lt h = and_from _ _ (le-leb 49 c (omega (arith, lt))) (le-leb c 57 h.1)

positive : (d : List ℕ) → 0 < length d → 48 < get_or d 0 0
    → ((k : ℕ) → k < length d → IsInRange 48 57 (get_or d k 0)) → IsPositive d
positive [] some first each = absurd (omega (arith, some))
positive (c ∷ cs) some first each = (
  c,
  cs,
  nonzero_test c first (each 0 (omega arith)),
  (λ k d lt. ap is_ascii_digit (get_or_default_zero cs k d lt)
      ∙ digit_test (get_or cs k 0) (each (suc k) (omega (arith, lt)))),
  refl,
)

natural : (n : ℕ) → n < 2 ^ 64 → IsNatural (decimal n)
natural n lt = elim (cases_eq n 0) [
  | inl q ↦ inl (ap decimal q ∙ decimal_digit 0 (omega arith))
  | inr q ↦ inr
      (positive (decimal n) (decimal_nonempty n lt) (first_decimal n (omega (arith, q)) lt)
      (digit_at n lt))
]

no_line_feed : (d : List ℕ) → ((k : ℕ) → k < length d → IsInRange 48 57 (get_or d k 0))
    → AllByRecursion (λ byte. byte ≢ 10) d
no_line_feed [] each = tt
no_line_feed (c ∷ cs) each = (
  λ e. let low = (each 0 (omega arith)).0 in
      omega (arith, low, e),
  no_line_feed cs (λ k lt. each (suc k) (omega (arith, lt))),
)

memo_line : (n : ℕ) → n < 2 ^ 32 → IsMemoNumber (decimal n)
memo_line n lt = record {
  natural = natural n (omega (arith, lt));
  small = (let e = decimal_says n (omega (arith, lt)) in omega (arith, e, lt));
}

line_of : (n : ℕ) → n < 2 ^ 32 → IsLine 1024 (decimal n)
line_of n lt =
    record {
      short =
          (let l = length-decimal-le 10 n (omega arith) (omega (arith, lt)) (omega (arith, lt)) in
          omega (arith, l));
      whole = no_line_feed (decimal n) (digit_at n (omega (arith, lt)));
    }

module _ (limit : ℕ) where
  put_allowed : (n : ℕ) (b : Bool) → ltb n 256 ≡ b → n < 2 ^ 32 → let o =
      cond b op.BinPut op.LongBinPut in IsAllowed limit (instruction o (argument_for o n))
  put_allowed n true e lt = record {
    good = record { suits = (refl, ltb-true n 256 e); contents = tt };
    within = tt;
    admitted = refl;
  }
  put_allowed n false e lt =
      record { good = record { suits = (refl, lt); contents = tt }; within = tt; admitted = refl }

  get_allowed : (n : ℕ) (b : Bool) → ltb n 256 ≡ b → n < 2 ^ 32 → let o =
      cond b op.BinGet op.LongBinGet in IsAllowed limit (instruction o (argument_for o n))
  get_allowed n true e lt = record {
    good = record { suits = (refl, ltb-true n 256 e); contents = tt };
    within = tt;
    admitted = refl;
  }
  get_allowed n false e lt =
      record { good = record { suits = (refl, lt); contents = tt }; within = tt; admitted = refl }

  form_allowed : (o : Op) (n : ℕ) → n < 2 ^ 32 → NamesNumber (effect_of o)
      → IsAllowed limit (instruction (form_of o n) (argument_for (form_of o n) n))
  form_allowed op.Put n lt h =
      record {
        good = record { suits = line_of n lt; contents = memo_line n lt };
        within = tt;
        admitted = refl;
      }
  form_allowed op.Get n lt h =
      record {
        good = record { suits = line_of n lt; contents = memo_line n lt };
        within = tt;
        admitted = refl;
      }
  form_allowed op.BinPut n lt h = put_allowed n (ltb n 256) refl lt
  form_allowed op.LongBinPut n lt h = put_allowed n (ltb n 256) refl lt
  form_allowed op.BinGet n lt h = get_allowed n (ltb n 256) refl lt
  form_allowed op.LongBinGet n lt h = get_allowed n (ltb n 256) refl lt
  form_allowed o n lt h = absurd h

  abbrev pub AreAllowed : List Instruction → Type 0
  AreAllowed [] = Unit {0}
  AreAllowed (i ∷ is) = IsAllowed limit i × AreAllowed is

  allowed_append : (is js : List Instruction) → AreAllowed is → AreAllowed js
      → AreAllowed (is ++ js)
  allowed_append [] js h g = g
  allowed_append (i ∷ is) js h g = (h.0, allowed_append is js h.1 g)

  module _ (vs : List (Option ℕ)) (total : ℕ)
      (small : (w : ℕ) → w < total → new_number vs w < 2 ^ 32) where
    left_allowed : (ws : Writes) (i : Instruction) → length (after i ws) ≤ total
        → IsAllowed limit i → AreAllowed (left_of vs ws (effect_of i.op) i)
    left_allowed ws i le h = left_by AreAllowed vs ws i (effect_of i.op) tt (h, tt)
        (λ w names lt.
        (form_allowed i.op (new_number vs w) (small w (omega (arith, lt, le))) names, tt))

    allowed_slim : (ws : Writes) (is : List Instruction) → length (after_all is ws) ≤ total
        → EndsInStop limit is → AreAllowed (slim_from vs ws is)
    allowed_slim ws [] le h = absurd h
    allowed_slim ws (i ∷ is) le (a, inl h) =
        let more = after_all_le is (after i ws) in
        allowed_append (left_of vs ws (effect_of i.op) i) _
        (left_allowed ws i (omega (arith, more, le)) a)
        (subst (λ is. AreAllowed (slim_from vs (after i ws) is)) (sym h.1) tt)
    allowed_slim ws (i ∷ is) le (a, inr h) =
        let more = after_all_le is (after i ws) in
        allowed_append (left_of vs ws (effect_of i.op) i) _
        (left_allowed ws i (omega (arith, more, le)) a)
        (allowed_slim (after i ws) is le h.1)

-- the slim form of allowed instructions
pub slim_allowed : (limit : ℕ) (p : List Instruction)
    → ((w : ℕ) → w < length (after_all p []) → new_number (sources [] p) w < 2 ^ 32)
    → EndsInStop limit p → AreAllowed limit (slim p)
slim_allowed limit p small h = allowed_slim limit (sources [] p)
    (length (after_all p [])) small [] p (omega arith) h
