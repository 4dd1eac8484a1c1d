-- An instruction that the checker and the frame rules accept has no fault.
use Rattle.pkmachine.specs.declared.old_strings.OldStrings.{OldStrings}
use Rattle.std.proofs.Common.{refl, ◌≡◌, ℕ, suc, List, [], ◌∷◌, ◌++◌, length, map, Option, Some}
use Rattle.std.proofs.Common.{sym, ap, subst, ◌∙◌}
use Rattle.pkops.specs.Limits.{Bounds}
use Rattle.pkops.specs.Spelling.{Instruction}
use Rattle.pkops.specs.declared.Reason.{Reason}
use Rattle.pkops.specs.declared.Reason.TheVariants as reason
use Rattle.pkread.specs.Pieces.{FramesGoOn, piece_of}
use Rattle.pkmachine.specs.Covers.{Asks, Follows}
use Rattle.pkmachine.specs.StepLaws.{StepLaws}
use Rattle.pkmachine.specs.Knowledge.{Knowledge, Policy, Progress}
use Rattle.pkimport.specs.Import.{Asked, AskedUnknown}
use Rattle.pkcheck.specs.Listing.{EachAsks, UnknownIsOpen}
use Rattle.pkread.specs.Framing.{IsFramed, counted_all}
use Rattle.pkmachine.specs.Faults.{Arrivals, HasFaultHere, everyone}
use Rattle.pkmachine.specs.RowRuns.{Beginning, EachIsReached, RunsFrom}
use Rattle.pkcheck.specs.RunFaults.{HasRunFault, IsFaultless}
use Rattle.pkmachine.specs.Runs.{State, Stepped, WentOn, Raised, Stopped, Stuck, step_as}
use Rattle.pkcheck.proofs.Wholes.FramesSoFar.{framed_in}
use Rattle.pkcheck.proofs.Wholes.Origins.{Begins, arrived, empty, stands_from}
use Rattle.pkcheck.proofs.Wholes.Stops.{StopsLast, nowhere_before}
use Rattle.pkcheck.proofs.Wholes.Walk.{Accepts, Along, Split, accepts_first, accepts_none}
use Rattle.pkcheck.proofs.Wholes.Walk.{accepts_split, along}
use Rattle.pkmachine.specs.Witnesses.{Stands}

-- a fault of an instruction that obeys the frame rules is one of the machine
pub machine_fault : (policy : Policy) (limits : Bounds) (before : List Instruction)
    (i : Instruction) → IsFramed (map piece_of before) (piece_of i) []
    → (here : Arrivals) (r : Reason) → HasRunFault policy limits before here i r
    → HasFaultHere policy limits here i r
machine_fault policy limits before i w here reason.BrokenFrame h = absurd (h w)
machine_fault policy limits before i w here _ h = h

same_place : {A : Type 0} (xs ys : List A) (a b : A) (us vs : List A) → length xs ≡ length ys
    → xs ++ a ∷ us ≡ ys ++ b ∷ vs → a ≡ b
same_place [] [] a b us vs n e = cc
same_place (x ∷ xs) (y ∷ ys) a b us vs n e = same_place xs ys a b us vs (cc) (cc)
same_place _ _ a b us vs n e = cc

-- a step that follows imports what is listed
asks_so : (q : Progress) (s : State) (st : Stepped) → Follows q s st → Asks q.import s st
asks_so q s (WentOn t) h = h.1
asks_so q s (Raised t) h = h
asks_so q s (Stopped r t) h = (h.3, h.4)
asks_so q s (Stuck b) h = h

-- one entry for each instruction
pub length-asked : {setting : OldStrings} {policy : Policy} {limits : Bounds}
    {p : List Instruction} {k known : Knowledge} {asked : List (Option Asked)}
    → Accepts setting policy limits p k known asked → length asked ≡ length p
length-asked accepts_none = refl
length-asked (accepts_first q e h) = ap suc (length-asked h)

module _ (laws : StepLaws) {setting : OldStrings} {policy : Policy} {limits : Bounds}
    {b : Beginning} {first known : Knowledge} (begins : Begins setting policy b first)
    {p : List Instruction} {asked : List (Option Asked)}
    (accepts : Accepts setting policy limits p first known asked) (last : StopsLast p) where
  -- what is known before one of the instructions
  record At (before : List Instruction) (i : Instruction) : Type 0 where
    split : Split setting policy limits before i first asked
    is_along : Along setting before first split.known
    stands : Stands split.known (RunsFrom setting b before)

  at : (before : List Instruction) (i : Instruction) (after : List Instruction)
      → p ≡ before ++ i ∷ after → At before i
  at before i after e =
      let s = accepts_split before i after
      (subst (λ x. Accepts setting policy limits x first known asked) e accepts) in
      let a = along laws (nowhere_before before i after (subst StopsLast e last)) s.accepts in
      record { split = s; is_along = a; stands = stands_from begins a }

  -- its import is the one that is listed for it
  import_at : (before : List Instruction) (i : Instruction) (h : At before i)
      (earlier : List (Option Asked)) (import : Option Asked) (later : List (Option Asked))
      → asked ≡ earlier ++ import ∷ later → length earlier ≡ length before
      → h.split.passed.import ≡ import
  import_at before i h earlier import later e n =
      same_place h.split.earlier earlier h.split.passed.import import h.split.later later
      (length-asked h.split.accepts ∙ sym n) (sym h.split.listed ∙ e)

  pub faultless : FramesGoOn → (still_open : ℕ) → counted_all 0 (map piece_of p) ≡ Some still_open
      → IsFaultless setting b policy limits p
  faultless goes_on still_open frames before i after e reason h =
      let s = at before i after e in
      let w = framed_in goes_on before i after still_open
      (ap (λ x. counted_all 0 (map piece_of x)) (sym e) ∙ frames) in
      laws.no_fault setting b before policy limits i s.split.known s.split.passed s.stands
      s.split.passes reason
      (machine_fault policy limits before i w (everyone (RunsFrom setting b before)) reason h)

  pub each_reached : EachIsReached setting b p
  each_reached before i after e = let some = (at before i after e).stands.some empty in
      (some.0, some.1)

  pub unknown_is_open : UnknownIsOpen setting b p asked
  unknown_is_open before i after earlier later e g n =
      let s = at before i after e in
      laws.unknown setting b before policy limits i s.split.known s.split.passed s.stands
      s.split.passes (import_at before i s earlier (Some AskedUnknown) later g n)

  pub each_asks : EachAsks setting b p asked
  each_asks before i after earlier import later e g n state outcome gets =
      let s = at before i after e in
      let w = arrived setting b before state gets in
      subst (λ x. Asks x state (step_as setting i state outcome))
      (import_at before i s earlier import later g n)
      (asks_so s.split.passed state (step_as setting i state outcome)
      (laws.sound setting policy limits i s.split.known s.split.passed s.split.passes state outcome
      (s.is_along.each w.0 state (begins.each w.0 w.1) w.2)))
