-- One call of `next`.
use Rattle.std.proofs.Common.{◌≡◌, ℕ, ◌+◌, ◌≤◌, List, [], length, Result, refl, sym, ap, ◌∙◌, subst}
use Rattle.std.proofs.Common.{arith, max, None, MatchResult, take_all}
use Rattle.pkops.specs.Answer.{IsWhole}
use Rattle.pkops.specs.Spelling.{Instruction, spelling}
use Rattle.pkops.specs.declared.Op.{Op}
use Rattle.pkops.specs.declared.Reason.TheVariants.{Source}
use Rattle.pkread.proofs.Reasons.Objections.{no_objection}
use Rattle.pkread.specs.Admission.{IsAllowed, objection}
use Rattle.pkread.specs.Core.{Phase, Open, Refused, phase_after}
use Rattle.pkread.specs.Private.Arms.{Gathers}
use Rattle.pkread.specs.Private.Progress.{Intake}
use Rattle.pkread.specs.ReaderCalls.{ReaderState, Gives, GivesNext, RefusesAt, StepsFrom, ShowsNext}
use Rattle.pkread.specs.ReaderCalls.{Refusal, ShowsBy}
use Rattle.pkread.specs.Rows.{Reason, Refuses, ShowsReason, Sight, all_bytes, unread}
use Rattle.pkread.specs.Sequence.{CountsAt}
use Rattle.pkread.specs.declared.reader.Next.{Next}
use Rattle.pkread.specs.declared.reader.Next.TheVariants as next

-- the bytes are one admitted instruction of the opcode
pub record IsGathered (limit : ℕ) (bytes : List ℕ) (op : Op) : Type 0 where
  pub instruction : Instruction
  pub whole : IsWhole limit bytes instruction (length bytes)
  pub admitted : objection instruction ≡ None
  pub opcode : instruction.op ≡ op

pub spelled : (limit : ℕ) (b : List ℕ) (i : Instruction) → IsWhole limit b i (length b) →
    b ≡ spelling i
spelled limit b i w = sym (take_all (length b) b (omega arith)) ∙ w.spells.spelled

allowed : (limit : ℕ) (b : List ℕ) (i : Instruction) (n : ℕ) → IsWhole limit b i n →
    objection i ≡ None → IsAllowed limit i
allowed limit b i n w e = record {
  good = w.spells.good;
  within = w.within;
  admitted = no_objection i e;
}

-- what was gathered is allowed
pub is_allowed : (limit : ℕ) (b : List ℕ) (op : Op) (j : Instruction) (t : IsGathered limit b op) →
    j ≡ t.instruction → IsAllowed limit j
is_allowed limit b op j t e = rw e (allowed limit b t.instruction (length b) t.whole t.admitted)

-- how far a reader in this state has come with an instruction of these bytes
abbrev pub come : List ℕ → ReaderState → Intake
come bytes s = record { bytes = bytes; source = s.source; taken = s.taken }

-- what was gathered is given
pub gives_whole : (old new : ReaderState) (at : ℕ) (b : List ℕ) (op : Op) (j : Instruction)
    (w : IsGathered old.limits.counted b op) → j ≡ w.instruction → at ≡ old.taken →
    Gathers old.limits.counted (come [] old) (come b new) → new.phase ≡ phase_after op →
    new.taken ≤ all_bytes → new.most ≡ max old.most (length b) → Gives old at j new
gives_whole old new at b op j w same t g p l m =
    rw same (
    let s = spelled old.limits.counted b w.instruction w.whole in
    record {
      place = t;
      allowed = allowed old.limits.counted b w.instruction (length b) w.whole w.admitted;
      bytes = rw s at g.source;
      taken = g.taken ∙ ap (λ (l : List ℕ). old.taken + length l) s;
      within = l;
      most = m ∙ ap (λ (l : List ℕ). max old.most (length l)) s;
      phase = p ∙ ap phase_after (sym w.opcode);
    })

-- from an open reader a step is a gift or a refusal
pub steps_open : (old new : ReaderState) (r : Result Next Refusal) → old.phase ≡ Open →
    MatchResult r (GivesNext old new) (λ x. RefusesAt old x new) → StepsFrom old.phase old r new
steps_open old new r e h = subst (λ (p : Phase). StepsFrom p old r new) (sym e) h

-- and it shows its place
pub shows_open : (old : ReaderState) (r : Result Next Refusal) → old.phase ≡ Open →
    MatchResult r (ShowsNext old) (λ x. x.at ≡ old.taken) →
    ShowsBy next.Ended (ShowsNext old) old.taken old.phase r
shows_open old r e h =
    subst (λ (p : Phase). ShowsBy next.Ended (ShowsNext old) old.taken p r) (sym e) h

-- the count of failures is as the reason says
pub counts_at : (limit : ℕ) (old new : Sight) (b : List ℕ) (t : ℕ) (r : Reason) →
    ShowsReason limit old new b t r → CountsAt r old.failures new.failures
counts_at limit old new b t Source w = w.0.count
counts_at limit old new b t _ w = w.0.count

-- a refusal, where the buffer holds the bytes taken
pub refuses_at : (old new : ReaderState) (b : List ℕ) (r : Refusal) → r.at ≡ old.taken →
    Refuses old.limits.counted old.source new.source b old.taken new.taken r.reason →
    new.most ≡ max old.most (length b) → new.phase ≡ Refused r → RefusesAt old r new
refuses_at old new b r place why most phase = record {
  place = place;
  why = (
    b,
    why,
    record { exact = λ ne. most; least = omega (arith, most); most = omega (arith, most) },
  );
  failures = counts_at old.limits.counted old.source new.source b new.taken r.reason why.row;
  phase = phase;
}

-- where nothing was taken ahead, the source is seen as it is
pub seen_so : (ahead : List ℕ) (s : Sight) → ahead ≡ [] → s ≡ unread ahead s
seen_so ahead s e = rw e refl
