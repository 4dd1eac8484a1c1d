-- One call of `next_head`.
use Rattle.std.proofs.Common.{◌≡◌, ℕ, ◌<◌, ◌≤◌, false, List, [], Result, sym, ap, ◌∙◌, subst, arith}
use Rattle.std.proofs.Common.{length, MatchResult}
use Rattle.pkops.specs.Limits.{Bounds}
use Rattle.pkops.specs.Payloads.{is_passed, payload_limit_at}
use Rattle.pkops.specs.Spelling.{Instruction, spelling}
use Rattle.pkops.specs.declared.Op.{Op}
use Rattle.pkread.proofs.Calls.Next.{IsGathered, come, counts_at, gives_whole, spelled}
use Rattle.pkread.specs.Core.{Phase, Open, Refused, phase_after}
use Rattle.pkread.specs.Heads.{GivesHead, HoldsFew, Skips, RefusesHead, ShowsHead}
use Rattle.pkread.specs.Heads.{StepsHeadFrom}
use Rattle.pkread.specs.Private.SkippedBytes.{HeldWhole, RefusedHead, SkippedOne, TookHead}
use Rattle.pkread.specs.Private.OpenReader.{IfHeld}
use Rattle.pkread.specs.Private.Progress.{Intake}
use Rattle.pkread.specs.ReaderCalls.{Refusal, Gives, ReaderState, ShowsBy}
use Rattle.pkread.specs.Rows.{all_bytes}
use Rattle.pkread.specs.declared.gather.Found.{Found}
use Rattle.pkread.specs.declared.heads.Gathered.{Gathered}
use Rattle.pkread.specs.declared.heads.Gathered.TheVariants as gathered
use Rattle.pkread.specs.declared.reader.Head.{Head}
use Rattle.pkread.specs.declared.reader.Head.TheVariants as head

-- from an open reader a step is a gift or a refusal
pub steps_head_open : (old new : ReaderState) (r : Result Head Refusal) → old.phase ≡ Open →
    MatchResult r (GivesHead old new) (λ x. RefusesHead old x new) →
    StepsHeadFrom old.phase old r new
steps_head_open old new r e h = subst (λ (p : Phase). StepsHeadFrom p old r new) (sym e) h

-- and it shows its place
pub shows_head_open : (old : ReaderState) (r : Result Head Refusal) → old.phase ≡ Open →
    MatchResult r (ShowsHead old) (λ x. x.at ≡ old.taken) →
    ShowsBy head.Ended (ShowsHead old) old.taken old.phase r
shows_head_open old r e h =
    subst (λ (p : Phase). ShowsBy head.Ended (ShowsHead old) old.taken p r) (sym e) h

-- an instruction that is held has bytes
pub some_held : (limits : Bounds) (g : Gathered) (old new : Intake) (most after : ℕ) →
    TookHead limits g old new most after → IfHeld g (0 < after)
some_held limits (gathered.Held f) old new most after h =
    let some = ap length h.found.lies.spelled in
    let rises = h.rises in
    omega (arith, some, rises)
some_held limits (gathered.Skipped op count) old new most after h = tt

-- a refusal while bytes were taken
pub refuses_head : (old new : ReaderState) (b : List ℕ) (r : Refusal) → r.at ≡ old.taken →
    old.most ≤ new.most →
    RefusedHead old.limits (come [] old) (come b new) old.most new.most r.reason →
    new.phase ≡ Refused r → RefusesHead old r new
refuses_head old new b r place least w phase =
    let limit = payload_limit_at old.limits w.bytes in
    record {
      place = place;
      why = (w.bytes, w.refuses, least, w.few);
      failures = counts_at limit old.source new.source w.bytes new.taken r.reason w.refuses.row;
      phase = phase;
    }

-- what was gathered is given
pub gives_held : (old new : ReaderState) (at : ℕ) (b : List ℕ) (f : Found) (j : Instruction)
    (w : IsGathered old.limits.counted b f.op) → j ≡ w.instruction → at ≡ old.taken →
    HeldWhole old.limits.counted f (come [] old) (come b new) old.most new.most →
    new.phase ≡ phase_after f.op → new.taken ≤ all_bytes →
    Gives old at j new × (is_passed j.op ≡ false) × HoldsFew old.most (spelling j) new.most
gives_held old new at b f j w same t h p l =
    let s = spelled old.limits.counted b w.instruction w.whole in (
      gives_whole old new at b f.op j w same t h.gathers p l h.rises,
      ap (λ (i : Instruction). is_passed i.op) same ∙ (ap is_passed w.opcode ∙ h.kept),
      rw same (subst (λ (c : List ℕ). HoldsFew old.most c new.most) s h.few),
    )

-- what was skipped is told
pub gives_skipped : (old new : ReaderState) (at count : ℕ) (op : Op) (b : List ℕ) → at ≡ old.taken →
    SkippedOne old.limits.passed op count (come [] old) (come b new) old.most new.most →
    old.most ≤ new.most → new.taken ≤ all_bytes → new.phase ≡ Open → Skips old at op count new
gives_skipped old new at count op b place s least within open' = record {
  place = place;
  passes = s.passes;
  within = within;
  least = least;
  most = s.few;
  phase = open';
}
