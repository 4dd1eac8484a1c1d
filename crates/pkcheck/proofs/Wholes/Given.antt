-- What a reader returned after the earlier instructions, by any of its calls.
use Rattle.std.proofs.Common.{◌≡◌, ℕ, suc, ◌+◌, true, false, List, [], ◌∷◌, ◌++◌, length, inl, inr}
use Rattle.std.proofs.Common.{refl, sym, ap, subst, ◌∙◌, arith, Ok, Err}
use Rattle.std.specs.Prelude.{All, Bool, IsTrue, drop, if◌then◌else◌}
use Rattle.pkops.specs.Inst.{instruction_of}
use Rattle.pkops.specs.Limits.{Bounds}
use Rattle.pkops.specs.Payloads.{is_passed, is_passed_code, payload_limit, payload_limit_at}
use Rattle.pkops.specs.Spelling.{Counted, Instruction, instruction, spelling}
use Rattle.pkops.specs.declared.Op.{Op}
use Rattle.pkops.specs.declared.Op.TheVariants as op
use Rattle.pkops.specs.declared.Refusal.{Refusal}
use Rattle.pkread.specs.Admission.{IsAllowedBy}
use Rattle.pkread.specs.AtHand.{AreNext, IsLent, beyond}
use Rattle.pkread.specs.Core.{Open, phase_after}
use Rattle.pkread.specs.Heads.{StepsHead}
use Rattle.pkread.specs.ReaderCalls.{Gives, ReaderState}
use Rattle.pkread.specs.Rows.{Refuses, Sight, Takes, unread}
use Rattle.pkread.specs.Run.{HeadIsRead, HoldsTo, LentIsRead, NextIsRead, PassedIsRead, PassesTo}
use Rattle.pkread.specs.Run.{Reads, ReadsMore, RefusalIsRead, RefusalOfHeads}
use Rattle.pkread.specs.Sequence.{CountsAt, NoStop}
use Rattle.pkread.specs.declared.Head.TheVariants as head
use Rattle.pkread.specs.declared.Next.TheVariants as next
use Rattle.pkcheck.specs.Private.Turns.{Gave, TurnedDown}

last_of : {X : Type 0} (P : X → Type 0) (xs : List X) (x : X) → All P (xs ++ x ∷ []) → P x
last_of P [] x h = h 0 x (omega arith)
last_of P (y ∷ xs) x h = last_of P xs x (λ k d lt. h (suc k) d (omega (arith, lt)))

-- if skipped payloads have the limit of all others, every payload has it
one_limit : (limits : Bounds) → limits.passed ≡ limits.counted → (passed : Bool)
    → (if passed then limits.passed else limits.counted) ≡ limits.counted
one_limit limits e true = e
one_limit limits e false = refl

one_limit_at : (limits : Bounds) → limits.passed ≡ limits.counted → (b : List ℕ)
    → payload_limit_at limits b ≡ limits.counted
one_limit_at limits e [] = refl
one_limit_at limits e (code ∷ b) = one_limit limits e (is_passed_code code)

module _ (start : Sight) (from : ℕ) (limits : Bounds) (p : List Instruction) (s : ReaderState) where
  -- the bytes of this instruction were taken at this offset
  pub record Took (at : ℕ) (i : Instruction) (t : ReaderState) : Type 0 where
    pub more : ReadsMore start from (payload_limit limits) p i t
    pub same_limits : t.limits ≡ s.limits
    pub place : at ≡ s.taken
    pub allowed : IsAllowedBy (payload_limit limits) i
    pub bytes : Takes s.source t.source (spelling i)
    pub taken : t.taken ≡ s.taken + length (spelling i)
    pub phase : t.phase ≡ phase_after i.op

  -- bytes were taken at this offset, and refused
  pub record Turned (r : Refusal) (t : ReaderState) : Type 0 where
    pub no_stop : NoStop p
    pub place : r.at ≡ s.taken
    pub bytes : List ℕ
    pub why : Refuses (payload_limit_at limits bytes) s.source t.source bytes s.taken t.taken
        r.reason

module _ {start : Sight} {from : ℕ} {limits : Bounds} {p : List Instruction} {s : ReaderState} where
  gave : (at : ℕ) (i : Instruction) (t : ReaderState) → t.limits ≡ s.limits
      → ReadsMore start from (payload_limit limits) p i t × Gives s at i t
      → Took start from limits p s at i t
  gave at i t same w = record {
    more = w.0;
    same_limits = same;
    place = w.1.place;
    allowed = last_of (IsAllowedBy (payload_limit limits)) p i w.0.reads.each;
    bytes = w.1.bytes;
    taken = w.1.taken;
    phase = w.1.phase;
  }

  module _ (reads : Reads start from (payload_limit limits) p s) (same : s.limits ≡ limits) where
    passes : PassesTo s (payload_limit limits)
    passes o = ap (λ l. payload_limit l o) same

    pub took_lent : LentIsRead → (bytes : List ℕ) (i : Instruction) → AreNext s bytes
        → IsLent limits bytes i → {at : ℕ} → at ≡ s.taken → {t : ReaderState}
        → t ≡ beyond (length (spelling i)) s
        → Took start from limits p s at i t × AreNext t (drop (length (spelling i)) bytes)
    took_lent law bytes i next lent place e =
        let lent' = subst (λ (l : Bounds). IsLent l bytes i) (sym same) lent in
        let (more, took, behind) = law start from (payload_limit limits) p s bytes i passes reads
        next lent' in
        rw e (
          record {
            more = more;
            same_limits = refl;
            place = place;
            allowed = last_of (IsAllowedBy (payload_limit limits)) p i more.reads.each;
            bytes = took;
            taken = refl;
            phase = next.phase ∙ sym lent.goes_on;
          },
          behind,
        )

    open_after : (o : Op) → IsTrue (is_passed o) → Open ≡ phase_after o
    open_after op.Stop h = cc
    open_after _ h = refl

    -- the payload of this opcode was skipped
    took_passed : PassedIsRead → (at : ℕ) (o : Op) (count : ℕ) (t : ReaderState)
        → StepsHead s (Ok (head.Passed at o count)) t
        → (payload : List ℕ)
        × Took start from limits p s at (instruction o (Counted payload)) t
    took_passed law at o count t k =
        let (payload, one, more, bytes, taken, g) =
        law start from (payload_limit limits) p s t (Ok (head.Passed at o count)) at o count passes
        reads k refl in (
          payload,
          record {
            more = more;
            same_limits = k.0;
            place = g.place;
            allowed = one.allowed;
            bytes = bytes;
            taken = taken;
            phase = g.phase ∙ open_after o one.passed;
          },
        )

    -- where payloads are held, `next` has one limit for all
    module _ (holding : Bool) (one : holding ≡ true → limits.passed ≡ limits.counted)
        (t : ReaderState) where
      pub took_gave : NextIsRead → HeadIsRead → PassedIsRead → (at : ℕ) (P : Instruction → Type 0)
          → Gave s t holding at P → (i : Instruction) × Took start from limits p s at i t × P i
      took_gave nexts heads passed at P = took holding one
        where
          took : (b : Bool) → (b ≡ true → limits.passed ≡ limits.counted) → Gave s t b at P
              → (i : Instruction) × Took start from limits p s at i t × P i
          took true one (inst, k, holds) =
              let holds_to : HoldsTo s (payload_limit limits) = λ o. ap (λ l. l.counted) same
              ∙ sym (one_limit limits (one refl) (is_passed o)) in (
                instruction_of inst,
                gave at (instruction_of inst) t k.0
                    (nexts start from (payload_limit limits) p s t (Ok (next.Inst at inst)) at inst
                    holds_to reads k refl),
                holds,
              )
          took false one (inl (inst, k, holds)) = (
            instruction_of inst,
            gave at (instruction_of inst) t k.0
                (heads start from (payload_limit limits) p s t (Ok (head.Inst at inst)) at inst
                passes reads k refl),
            holds,
          )
          took false one (inr (o, count, k, holds)) =
              let (payload, w) = took_passed passed at o count t k in (
                instruction o (Counted payload),
                w,
                holds (instruction o (Counted payload))
                    (record { op_is = refl; long = omega (arith, w.place, w.taken) }),
              )

      pub turned_down : RefusalIsRead → RefusalOfHeads → (x : Refusal) → TurnedDown s t holding x
          → Turned start from limits p s x t × CountsAt x.reason s.source.failures t.source.failures
      turned_down nexts heads x = turned holding one
        where
          turned : (b : Bool) → (b ≡ true → limits.passed ≡ limits.counted) → TurnedDown s t b x
              → Turned start from limits p s x t
              × CountsAt x.reason s.source.failures t.source.failures
          turned true one k =
              let w = nexts start from (payload_limit limits) p s t (Err x) x reads k refl in
              let b = w.1.why.0 in (
                record {
                  no_stop = w.0;
                  place = w.1.place;
                  bytes = b;
                  why = subst (λ l. Refuses l s.source t.source b s.taken t.taken x.reason)
                      (ap (λ l. l.counted) same ∙ sym (one_limit_at limits (one refl) b)) w.1.why.1;
                },
                w.1.failures,
              )
          turned false one k =
              let w = heads start from (payload_limit limits) p s t (Err x) x reads k refl in
              let b = w.1.why.0 in (
                record {
                  no_stop = w.0;
                  place = w.1.place;
                  bytes = b;
                  why = subst (λ l. Refuses (payload_limit_at l b) s.source t.source b s.taken
                      t.taken x.reason) same w.1.why.1;
                },
                w.1.failures,
              )

-- if no byte was read ahead, the view of the source is unchanged
pub seen_so : {ahead : List ℕ} → ahead ≡ [] → (here : Sight) → here ≡ unread ahead here
seen_so e here = rw e refl
