-- A whole run of a reader: the instructions that it has given so far.
use Rattle.std.proofs.Common.{◌≡◌, ◌≢◌, ℕ, ◌+◌, true, false, List, [], ◌∷◌, ◌++◌, length, refl, sym}
use Rattle.std.proofs.Common.{ap, subst, ◌∙◌, arith, length-append, append-nil, append_assoc}
use Rattle.std.proofs.Common.{Result, Ok, Err, Option, None, Some, All, Bool, if◌then◌else◌}
use Rattle.std.proofs.lemmas.List.Elements.{All-push, All-nil}
use Rattle.pkops.specs.Inst.{instruction_of}
use Rattle.pkops.specs.Limits.{Bounds}
use Rattle.pkops.specs.Payloads.{is_passed, payload_limit}
use Rattle.pkops.specs.Spelling.{Counted, Instruction, instruction, spelling}
use Rattle.pkops.specs.declared.Op.{Op}
use Rattle.pkops.specs.declared.Op.TheVariants as op
use Rattle.pkread.proofs.Bytes.Takes.{Takes-more}
use Rattle.pkread.proofs.Calls.AtHand.{next_behind, takes_lent}
use Rattle.pkread.specs.Admission.{IsAllowed, IsAllowedBy}
use Rattle.pkread.specs.AtHand.{beyond}
use Rattle.pkread.specs.Core.{Phase, Open, Ended, Refused, phase_after}
use Rattle.pkread.specs.Heads.{GivesHead, IsSkipped, RefusesHead}
use Rattle.pkread.specs.ReaderCalls.{Refusal, GivesNext, ReaderState, RefusesAt, StepsBy, begun}
pub use Rattle.pkread.specs.Run.{Reads, SoFar}
use Rattle.pkread.specs.Run.{EndIsRead, EndOfHeads, HeadIsRead, NextIsRead, PassedIsRead}
use Rattle.pkread.specs.Run.{LentIsRead, ReadingBegins, ReadingGoesOn, ReadsMore, RefusalIsRead}
use Rattle.pkread.specs.Run.{RefusalOfHeads}
use Rattle.pkread.specs.Rows.{Sight, Takes}
use Rattle.pkread.specs.Sequence.{IsSequence, NoStop, spellings}
use Rattle.pkread.specs.declared.reader.Head.TheVariants as head
use Rattle.pkread.specs.declared.reader.Next.TheVariants as next

-- one instruction more is spelled behind the others
pub spellings-more : (p : List Instruction) (i : Instruction)
    → spellings (p ++ i ∷ []) ≡ spellings p ++ spelling i
spellings-more [] i = append-nil (spelling i)
spellings-more (x ∷ p) i = ap (λ (b : List ℕ). spelling x ++ b) (spellings-more p i)
    ∙ sym (append_assoc (spelling x) (spellings p) (spelling i))

-- how a call stepped, by what it returned
module _ {A : Type 0} (end : A) (gives : A → Type 0) (refuses : Refusal → Type 0)
    (s t : ReaderState) (r : Result A Refusal) where
  -- anything but the end comes only from an open reader
  given : (p : Phase) (a : A) → (a ≡ end → ⊥) → StepsBy end gives refuses p s r t → r ≡ Ok a
      → (p ≡ Open) × gives a
  given Open a other h e = (refl, rw e at h)
  given Ended a other h e = let f = h.0 in absurd (other cc)
  given (Refused x) a other h e = let f = h.0 in absurd cc

  -- the end comes only from a reader that has ended, which stays as it is
  ended : (p : Phase) → (gives end → ⊥) → StepsBy end gives refuses p s r t → r ≡ Ok end
      → (p ≡ Ended) × (t ≡ s)
  ended Open never h e = absurd (never (rw e at h))
  ended Ended never h e = (refl, h.1)
  ended (Refused x) never h e = let f = h.0 in absurd cc

  -- a reader that refuses for the first time was open
  refused : (p : Phase) (q : List Instruction) (x : Refusal) → SoFar q p
      → StepsBy end gives refuses p s r t → r ≡ Err x → NoStop q × refuses x
  refused Open q x so h e = (so, rw e at h)
  refused Ended q x so h e = let f = h.0 in absurd cc
  refused (Refused y) q x so h e = absurd so

phase_cases : (p : List Instruction) (i : Instruction) → All (λ j. j.op ≢ op.Stop) p → (o : Op)
    → i.op ≡ o → SoFar (p ++ i ∷ []) (phase_after o)
phase_cases p i a op.Stop e = (p, i, refl, e, a)
phase_cases p i a _ e = All-push (λ j. j.op ≢ op.Stop) p _ a (λ f. cc)

so_far_more : (p : List Instruction) (i : Instruction) → All (λ j. j.op ≢ op.Stop) p
    → SoFar (p ++ i ∷ []) (phase_after i.op)
so_far_more p i a = phase_cases p i a i.op refl

-- while the reader is open, none was STOP
pub so_far_open : (p : List Instruction) (f : Phase) → f ≡ Open → SoFar p f
    → All (λ j. j.op ≢ op.Stop) p
so_far_open p f e h = rw e at h

-- taking nothing
pub takes_none : (left : Option (List ℕ)) (f : ℕ) → let s : Sight =
    record { left = left; failures = f } in Takes s s []
takes_none None f = record { bytes = tt; count = refl }
takes_none (Some xs) f = record { bytes = refl; count = refl }

-- a reader that has ended has given STOP last
pub stopped : (p : List Instruction) (f : Phase) → f ≡ Ended → SoFar p f
    → (q : List Instruction) × (last : Instruction) × (p ≡ q ++ last ∷ []) × (last.op ≡ op.Stop)
    × All (λ i. i.op ≢ op.Stop) q
stopped p f e h = rw e at h

-- one instruction more was taken
reads_one : (start : Sight) (from : ℕ) (limit : Op → ℕ) (p : List Instruction) (s t : ReaderState)
    (i : Instruction) → Reads start from limit p s → s.phase ≡ Open → IsAllowedBy limit i
    → Takes s.source t.source (spelling i) → t.taken ≡ s.taken + length (spelling i)
    → t.phase ≡ phase_after i.op → Reads start from limit (p ++ i ∷ []) t
reads_one start from limit p s t i h o allowed bytes taken phase = record {
  each = All-push (IsAllowedBy limit) p i h.each allowed;
  so_far = rw phase (so_far_more p i (so_far_open p s.phase o h.so_far));
  bytes = rw (spellings-more p i) (Takes-more h.bytes bytes);
  count = omega (
    arith,
    taken,
    h.count,
    ap length (spellings-more p i),
    length-append (spellings p) (spelling i),
  );
}

-- a new reader has given nothing
pub reads_none : (start : Sight) (limit : Op → ℕ) (limits : Bounds)
    → Reads start 0 limit [] (begun start limits)
reads_none start limit limits = record {
  each = All-nil (IsAllowedBy limit);
  so_far = All-nil (λ j. j.op ≢ op.Stop);
  bytes = takes_none start.left start.failures;
  count = refl;
}

-- a reader that has ended has given a sequence
pub reads_sequence : (start : Sight) (from : ℕ) (limit : Op → ℕ) (p : List Instruction)
    (s : ReaderState) → Reads start from limit p s → s.phase ≡ Ended → IsSequence limit p
reads_sequence start from limit p s h e =
    record { each = h.each; stops = stopped p s.phase e h.so_far }

-- the laws of a loop over `next`

pub reading_begins : ReadingBegins
reading_begins start limit limits = reads_none start limit limits

-- an open reader has given nothing from there on
pub reading_goes_on : ReadingGoesOn
reading_goes_on s limit o = record {
  each = All-nil (IsAllowedBy limit);
  so_far = rw o (All-nil (λ j. j.op ≢ op.Stop));
  bytes = takes_none s.source.left s.source.failures;
  count = omega arith;
}

more_of : (start : Sight) (from : ℕ) (limit : Op → ℕ) (p : List Instruction) (s t : ReaderState)
    (i : Instruction) → Reads start from limit p s → s.phase ≡ Open
    → Reads start from limit (p ++ i ∷ []) t → ReadsMore start from limit p i t
more_of start from limit p s t i h o k =
    record { no_stop = so_far_open p s.phase o h.so_far; reads = k }

pub next_is_read : NextIsRead
next_is_read start from limit p s t r at i holds h k e =
    let o = given next.Ended (GivesNext s t) (λ x. RefusesAt s x t) s t r s.phase (next.Inst at i)
    (λ f. cc) k.1 e in
    let g = o.1 in
    let allowed : IsAllowedBy limit (instruction_of i) =
    subst (λ (l : ℕ). IsAllowed l (instruction_of i)) (holds (instruction_of i).op) g.allowed in (
      more_of start from limit p s t (instruction_of i) h o.0
          (reads_one start from limit p s t (instruction_of i) h o.0 allowed g.bytes g.taken
          g.phase),
      g,
    )

pub end_is_read : EndIsRead
end_is_read start from limit p s t r h k e =
    let o = ended next.Ended (GivesNext s t) (λ x. RefusesAt s x t) s t r s.phase (λ f. f) k.1 e in
    (reads_sequence start from limit p s h o.0, o.1)

pub refusal_is_read : RefusalIsRead
refusal_is_read start from limit p s t r x h k e =
    refused next.Ended (GivesNext s t) (λ y. RefusesAt s y t) s t r s.phase p x h.so_far k.1 e

-- the laws of a loop over `next_head`

-- a limit by the opcode, where it is passed or isn't
by_passed : (limits : Bounds) (limit : Op → ℕ) (o : Op) (passed : Bool)
    → payload_limit limits o ≡ limit o → is_passed o ≡ passed
    → (if passed then limits.passed else limits.counted) ≡ limit o
by_passed limits limit o passed same e = ap (λ x. if x then limits.passed else limits.counted)
    (sym e) ∙ same

pub head_is_read : HeadIsRead
head_is_read start from limit p s t r at i passes h k e =
    let o = given head.Ended (GivesHead s t) (λ x. RefusesHead s x t) s t r s.phase (head.Inst at i)
    (λ f. cc) k.1 e in
    let g = o.1.0 in
    let j = instruction_of i in
    let allowed : IsAllowedBy limit j = subst (λ (l : ℕ). IsAllowed l j)
    (by_passed s.limits limit j.op false (passes j.op) o.1.1) g.allowed in (
      more_of start from limit p s t j h o.0
          (reads_one start from limit p s t j h o.0 allowed g.bytes g.taken g.phase),
      g,
    )

-- a passed opcode isn't STOP
passed_goes_on : (o : Op) → is_passed o ≡ true → phase_after o ≡ Open
passed_goes_on op.Stop e = absurd cc
passed_goes_on _ e = refl

pub passed_is_read : PassedIsRead
passed_is_read start from limit p s t r at o count passes h k e =
    let w = given head.Ended (GivesHead s t) (λ x. RefusesHead s x t) s t r s.phase
    (head.Passed at o count) (λ f. cc) k.1 e in
    let g = w.1 in
    let b = g.passes in
    let i = instruction o (Counted b.payload) in
    let same = by_passed s.limits limit o true (passes o) b.one.passed in
    let one : IsSkipped (limit o) o count b.payload =
    subst (λ (l : ℕ). IsSkipped l o count b.payload) same b.one in (
      b.payload,
      one,
      more_of start from limit p s t i h w.0
          (reads_one start from limit p s t i h w.0 one.allowed b.bytes b.taken
          (g.phase ∙ sym (passed_goes_on o b.one.passed))),
      b.bytes,
      b.taken,
      g,
    )

-- an instruction that is lent from the bytes at hand
pub lent_is_read : LentIsRead
lent_is_read start from limit p s bytes i passes h next lent =
    let t : ReaderState = beyond (length (spelling i)) s in
    let allowed : IsAllowedBy limit i = subst (λ (l : ℕ). IsAllowed l i)
    (passes i.op) lent.allowed in
    let took = takes_lent s bytes i next lent in
    let phase = next.phase ∙ sym lent.goes_on in (
      more_of start from limit p s t i h next.phase
          (reads_one start from limit p s t i h next.phase allowed took refl phase),
      took,
      next_behind s bytes i next lent,
    )

pub end_of_heads : EndOfHeads
end_of_heads start from limit p s t r h k e =
    let o = ended head.Ended (GivesHead s t) (λ x. RefusesHead s x t) s t r s.phase (λ f. f) k.1 e
    in
    (reads_sequence start from limit p s h o.0, o.1)

pub refusal_of_heads : RefusalOfHeads
refusal_of_heads start from limit p s t r x h k e =
    refused head.Ended (GivesHead s t) (λ y. RefusesHead s y t) s t r s.phase p x h.so_far k.1 e
