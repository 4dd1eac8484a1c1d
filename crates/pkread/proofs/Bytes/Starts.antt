-- Each opcode of the table of lengths stands at the place of its code.
use Rattle.std.proofs.Common.{◌≡◌, ◌≢◌, ℕ, zero, suc, ◌+◌, Bool, true, false, cond, List, [], ◌∷◌}
use Rattle.std.proofs.Common.{slice_index_or, refl, ap, arith, inl, inr, length, ◌==◌, ◌&&◌, ◌<◌}
use Rattle.std.proofs.lemmas.Bool.{and_parts, cases_Bool, eqb-true}
use Rattle.pkops.specs.Table.{code_of}
use Rattle.pkops.specs.declared.Op.{Op}
use Rattle.pkops.specs.declared.Op.TheVariants as op
use Rattle.pkread.specs.declared.front.Start.{Start}
use Rattle.pkread.specs.declared.front.TheConstants.{STARTS}

-- the entry beyond the end of the table
abbrev none : Start
none = record { op = op.Int; length = 0 }

abbrev is_stop : Op → Bool
is_stop op.Stop = true
is_stop _ = false

stop_is : (o : Op) → is_stop o ≡ true → o ≡ op.Stop
stop_is op.Stop e = refl
stop_is _ e = absurd cc

abbrev is_none : Start → Bool
is_none start = is_stop start.op && (start.length == 0)

abbrev has_code : ℕ → Start → Bool
has_code code start = cond (is_none start) true (code_of start.op == code)

-- each opcode of these stands at the place of its code, counted from this one
abbrev have_codes : ℕ → List Start → Bool
have_codes code [] = true
have_codes code (start ∷ starts) =
    cond (has_code code start) (have_codes (code + 1) starts) false

at_place : (first place code : ℕ) (starts : List Start) → first + place ≡ code
    → place < length starts → have_codes first starts ≡ true → (
    (slice_index_or starts place none).op ≡ op.Stop
    → (slice_index_or starts place none).length ≢ 0
    ) → code_of (slice_index_or starts place none).op ≡ code
at_place first place code [] sum inside e some = absurd (omega (arith, inside))
at_place first zero code (start ∷ starts) sum inside e some =
    elim (cases_Bool (has_code first start)) [
      | inl same ↦ elim (cases_Bool (is_none start)) [
        | inl empty ↦
            let p = and_parts (is_stop start.op) _ empty in
            absurd (some (stop_is start.op p.0) (eqb-true start.length 0 p.1))
        | inr full ↦
            let f = rw full at same in
            let is = eqb-true (code_of start.op) first f in
            omega arith
      ]
      | inr other ↦ absurd (let f = rw other at e in cc)
    ]
at_place first (suc place) code (start ∷ starts) sum inside e some =
    elim (cases_Bool (has_code first start)) [
      | inl same ↦
          let f = rw same at e in
          at_place (first + 1) place code starts (omega arith) (omega (arith, inside)) f some
      | inr other ↦ absurd (let f = rw other at e in cc)
    ]

-- an opcode, unless it is STOP without a length, is of the code
pub is_of : (starts : List Start) (place code : ℕ) → starts ≡ STARTS → place ≡ code → code < 256
    → (
    (slice_index_or starts place none).op ≡ op.Stop
    → (slice_index_or starts place none).length ≢ 0
    ) → code_of (slice_index_or starts place none).op ≡ code
is_of starts place code e same few =
    let all : length starts ≡ 256 = ap length e in
    at_place 0 place code starts (omega arith) (omega (arith, same, few, all)) (ap (have_codes 0) e)
