-- What is left of an instruction, and what it keeps if it gets another number.
use Rattle.std.proofs.Common.{◌≡◌, ℕ, suc, ◌<◌, ◌^◌, true, false, cond, ltb, List, [], ◌∷◌, length}
use Rattle.std.proofs.Common.{Option, None, Some, refl, sym, ◌∙◌, arith}
use Rattle.std.specs.Prelude.{nat_eq}
use Rattle.std.specs.Str.Parse.{AllDigits, digits_value}
use Rattle.std.specs.Fmt.{decimal}
use Rattle.std.proofs.lemmas.Bool.{cond_both}
use Rattle.std.proofs.lemmas.Fmt.{digits_value-decimal}
use Rattle.std.proofs.lemmas.Str.Parse.{numerals_by_value, tells_digits}
use Rattle.pkops.specs.declared.Op.{Op}
use Rattle.pkops.specs.declared.Op.TheVariants as op
use Rattle.pkops.specs.Spelling.{Instruction, instruction}
use Rattle.pkops.specs.Operands.{memo_number}
use Rattle.pkstack.specs.declared.Move.TheVariants.{Stores, StoresNext, Fetches}
use Rattle.pkmachine.specs.Effects.{Effect, Moves, effect_of}
use Rattle.pkopt.specs.Slim.{form_of, argument_for, is_frame, left_of, read_left, renumbered}
use Rattle.pkopt.specs.Writers.{Writes, is_read, last_write, new_number, wrote}

-- an instruction of this effect names the number of a memo entry
abbrev pub NamesNumber : Effect → Type 0
NamesNumber (Moves Stores) = Unit {0}
NamesNumber (Moves Fetches) = Unit {0}
NamesNumber e = ⊥

-- what both lengths of an opcode have alike, the opcode for each number has
pub form_keeps : {A : Type 0} (f : Op → A) → f op.BinPut ≡ f op.LongBinPut
    → f op.BinGet ≡ f op.LongBinGet → (o : Op) (n : ℕ) → f (form_of o n) ≡ f o
form_keeps f put get op.BinPut n = cond_both (ltb n 256) op.BinPut op.LongBinPut
    (λ o. f o ≡ f op.BinPut) (λ _. refl) (λ _. sym put)
form_keeps f put get op.LongBinPut n = cond_both (ltb n 256) op.BinPut op.LongBinPut
    (λ o. f o ≡ f op.LongBinPut) (λ _. put) (λ _. refl)
form_keeps f put get op.BinGet n = cond_both (ltb n 256) op.BinGet op.LongBinGet
    (λ o. f o ≡ f op.BinGet) (λ _. refl) (λ _. sym get)
form_keeps f put get op.LongBinGet n = cond_both (ltb n 256) op.BinGet op.LongBinGet
    (λ o. f o ≡ f op.LongBinGet) (λ _. get) (λ _. refl)
form_keeps f put get o n = refl

pub form_effect : (o : Op) (n : ℕ) → effect_of (form_of o n) ≡ effect_of o
form_effect = form_keeps effect_of refl refl

pub decimal_says : (n : ℕ) → n < 2 ^ 64 → digits_value 10 (decimal n) ≡ n
decimal_says n lt = digits_value-decimal (numerals_by_value (AllDigits 10) tells_digits) n lt

abbrev numbered_as : ℕ → Op → ℕ
numbered_as n o = memo_number (instruction o (argument_for o n))

number_of : (o : Op) (n : ℕ) → n < 2 ^ 64 → NamesNumber (effect_of o) → numbered_as n o ≡ n
number_of op.Put n lt h = decimal_says n lt
number_of op.Get n lt h = decimal_says n lt
number_of op.BinPut n lt h = refl
number_of op.LongBinPut n lt h = refl
number_of op.BinGet n lt h = refl
number_of op.LongBinGet n lt h = refl
number_of o n lt h = absurd h

-- it names the new number
pub renumbered_number : (i : Instruction) (n : ℕ) → n < 2 ^ 64 → NamesNumber (effect_of i.op)
    → memo_number (renumbered n i) ≡ n
renumbered_number i n lt h = form_keeps (numbered_as n) refl refl i.op n ∙ number_of i.op n lt h

pub last_write_lt : (n : ℕ) (ws : Writes) (w : ℕ) → last_write n ws ≡ Some w → w < length ws
last_write_lt n [] w e = cc
last_write_lt n (m ∷ ws) w e =
    elim (nat_eq n m) as (λ b. cond b (Some (length ws)) (last_write n ws) ≡ Some w
    → w < suc (length ws)) [
      | true ↦ λ h. let q : length ws ≡ w = cc in omega (arith, q)
      | false ↦ λ h. let lt = last_write_lt n ws w h in omega (arith, lt)
    ] e

-- nothing is left of an instruction, or itself, or it with the new number of a write
pub left_by : (P : List Instruction → Type 0) (vs : List (Option ℕ)) (ws : Writes)
    (i : Instruction) (e : Effect) → P [] → P (i ∷ [])
    → ((w : ℕ) → NamesNumber e → w < length (wrote e (memo_number i) ws)
    → P (renumbered (new_number vs w) i ∷ [])) → P (left_of vs ws e i)
left_by P vs ws i (Moves Stores) none same new = cond_both (is_read (length ws) vs) _ [] P
    (λ _. new (length ws) tt (omega arith)) (λ _. none)
left_by P vs ws i (Moves StoresNext) none same new =
    cond_both (is_read (length ws) vs) (i ∷ []) [] P (λ _. same) (λ _. none)
left_by P vs ws i (Moves Fetches) none same new =
    let a = last_write (memo_number i) ws in
    elim a as (λ b. a ≡ b → P (read_left vs b i)) [
      | None ↦ λ e. same
      | Some w ↦ λ e. new w tt (last_write_lt (memo_number i) ws w e)
    ] refl
left_by P vs ws i e none same new =
    cond_both (is_frame i.op) [] (i ∷ []) P (λ _. none) (λ _. same)
