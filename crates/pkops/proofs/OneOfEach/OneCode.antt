-- Each opcode has its own code.
use Rattle.std.proofs.Common.{◌≡◌, ◌≢◌, ℕ, zero, suc, ◌+◌, Bool, true, false, cond, List, [], ◌∷◌}
use Rattle.std.proofs.Common.{Option, Some, None, IfSome, IfNone, slice_index_or, refl, ap, ◌∙◌}
use Rattle.std.proofs.Common.{arith, inl, inr, ◌==◌}
use Rattle.std.proofs.lemmas.Bool.{cases_Bool, eqb-true}
use Rattle.pkops.specs.declared.op.Op.TheVariants as op
use Rattle.pkops.specs.declared.codes.TheConstants.{OPCODES}
use Rattle.pkops.specs.Table.{Op, code_of}

abbrev op_of : ℕ → Option Op
op_of code = slice_index_or OPCODES code None

found : (o : Op) → op_of (code_of o) ≡ Some o
found op.Int = refl
found _ = refl

pub one_code : (a b : Op) → code_of a ≡ code_of b → a ≡ b
one_code a b e = let f = found a in let g = found b in let h = ap op_of e in cc

-- each opcode of these stands at the place of its code, counted from this one
abbrev has_code : ℕ → Option Op → Bool
has_code code None = true
has_code code (Some o) = code_of o == code

abbrev have_codes : ℕ → List (Option Op) → Bool
have_codes code [] = true
have_codes code (o ∷ ops) = cond (has_code code o) (have_codes (code + 1) ops) false

at_place : (first place code : ℕ) (ops : List (Option Op)) → first + place ≡ code
    → have_codes first ops ≡ true → IfSome (slice_index_or ops place None) (λ op. code_of op ≡ code)
at_place first place code [] sum e = tt
at_place first zero code (None ∷ ops) sum e = tt
at_place first zero code (Some o ∷ ops) sum e = elim (cases_Bool (code_of o == first)) [
  | inl same ↦ let is = eqb-true (code_of o) first same in omega arith
  | inr other ↦ absurd (let f = rw other at e in cc)
]
at_place first (suc place) code (o ∷ ops) sum e = elim (cases_Bool (has_code first o)) [
  | inl same ↦ let f = rw same at e in at_place (first + 1) place code ops (omega arith) f
  | inr other ↦ absurd (let f = rw other at e in cc)
]

-- an opcode found is of the code, and where none is found the code is none's
pub is_of : (ops : List (Option Op)) (place code : ℕ) → ops ≡ OPCODES → place ≡ code
    → IfSome (slice_index_or ops place None) (λ op. code_of op ≡ code)
is_of ops place code e same = at_place 0 place code ops (omega arith) (ap (have_codes 0) e)

is_none_of : (code : ℕ) (o : Option Op) → o ≡ op_of code → IfNone o ((op : Op) → code_of op ≢ code)
is_none_of code None e = λ op same. let f = found op in let g = ap op_of same in cc
is_none_of code (Some o) e = tt

pub is_none : (ops : List (Option Op)) (place code : ℕ) → ops ≡ OPCODES → place ≡ code
    → IfNone (slice_index_or ops place None) ((op : Op) → code_of op ≢ code)
is_none ops place code e same = is_none_of code _
    (ap (λ (l : List (Option Op)). slice_index_or l place None) e ∙ ap op_of same)
