-- An instruction whose payload was skipped, as the frame rules see it and as it is told.
use Rattle.std.proofs.Common.{◌≡◌, ◌∙◌, ℕ, ap, false, length, refl, true, ◌≤◌, ◌-◌, Ok, Result}
use Rattle.std.proofs.Common.{subst, sym}
use Rattle.std.specs.Prelude.{IsTrue}
use Rattle.pkops.specs.Inst.{instruction_of}
use Rattle.pkops.specs.declared.Inst.{Inst}
use Rattle.pkops.specs.declared.Refusal.{Refusal}
use Rattle.pkread.specs.Core.{Open}
use Rattle.pkread.specs.Heads.{StepsHead, StepsHeadFrom}
use Rattle.pkread.specs.ReaderCalls.{ReaderState}
use Rattle.pkread.specs.Rows.{all_bytes}
use Rattle.pkread.specs.declared.Head.{Head}
use Rattle.pkread.specs.declared.Head.TheVariants as head
use Rattle.pkops.specs.Payloads.{is_passed}
use Rattle.pkops.specs.Spelling.{Instruction, spelling}
use Rattle.pkops.specs.declared.Op.{Op}
use Rattle.pkops.specs.declared.Op.TheVariants as op
use Rattle.pkread.specs.Pieces.{number_of, piece_of, role_of}
use Rattle.pkmachine.specs.Following.{HasLength}
use Rattle.pkcheck.specs.Reports.{Skipped, Whole, told_of}

no_frame : (o : Op) (m n : ℕ) → IsTrue (is_passed o) → role_of o m ≡ role_of o n
no_frame op.Frame m n h = cc
no_frame op.Stop m n h = refl
no_frame _ m n h = refl

pub piece_passed : (i : Instruction) (o : Op) (n : ℕ) → IsTrue (is_passed o) → HasLength i o n
    → piece_of i ≡ record { length = n; role = role_of o 0 }
piece_passed i o n h l =
    let role : role_of i.op (number_of i.arg) ≡ role_of o 0 =
    rw l.op_is (no_frame o (number_of i.arg) 0 h) in
    λ j. record { length = l.long j; role = role j }

-- what is told of an instruction whose payload was skipped
pub told_skipped : (i : Instruction) (o : Op) (n : ℕ) → IsTrue (is_passed o) → HasLength i o n
    → told_of false i ≡ Skipped o n
told_skipped i o n h l =
    let passed : is_passed i.op ≡ true = ap is_passed l.op_is ∙ h in
    let told : told_of false i ≡ Skipped i.op (length (spelling i)) = rw passed refl in
    told ∙ (ap (Skipped i.op) l.long ∙ ap (λ p. Skipped p n) l.op_is)

-- and of one that has none to skip
pub told_whole : (i : Instruction) → is_passed i.op ≡ false → told_of false i ≡ Whole i
told_whole i h = rw h refl

-- what is told of what the reader returned
module _ (s t : ReaderState) (r : Result Head Refusal) (k : StepsHead s r t)
    (ready : s.phase ≡ Open) where
  pub whole_told : (at : ℕ) (inst : Inst) → r ≡ Ok (head.Inst at inst)
      → StepsHead s (Ok (head.Inst at inst)) t
      × (told_of false (instruction_of inst) ≡ Whole (instruction_of inst))
      × (t.taken ≤ all_bytes)
  whole_told at inst is =
      let stepped = subst (λ r. StepsHead s r t) is k in
      let gives = subst (λ f. StepsHeadFrom f s (Ok (head.Inst at inst)) t) ready stepped.1 in
      (stepped, told_whole (instruction_of inst) gives.1, gives.0.within)

  pub skipped_told : (at : ℕ) (o : Op) (count : ℕ) → r ≡ Ok (head.Passed at o count)
      → (taken : ℕ) → taken ≡ t.taken
      → StepsHead s (Ok (head.Passed at o count)) t × (t.taken ≤ all_bytes)
      × ((i : Instruction) → HasLength i o (t.taken - at)
      → HasLength i o (taken - at) × (told_of false i ≡ Skipped o (taken - at)))
  skipped_told at o count is taken same =
      let stepped = subst (λ r. StepsHead s r t) is k in
      let skips = subst (λ f. StepsHeadFrom f s (Ok (head.Passed at o count)) t) ready stepped.1 in
      let passed = skips.passes.one.passed in (
        stepped,
        skips.within,
        λ i l. let h : HasLength i o (taken - at) =
            record { op_is = l.op_is; long = l.long ∙ ap (λ n. n - at) (sym same) } in
            (h, told_skipped i o (taken - at) passed h),
      )
