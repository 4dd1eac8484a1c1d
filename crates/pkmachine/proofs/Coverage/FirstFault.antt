-- If a knowledge stands for the states in which runs reach an instruction, the checker refuses
-- exactly if the instruction has a fault there, and names the first one.
use Rattle.std.proofs.Common.{◌≡◌, ◌≢◌, ℕ, ◌<◌, List, Some, None, Ok, Err, refl, ap, arith}
use Rattle.pkops.specs.Spelling.{Instruction}
use Rattle.pkops.specs.Limits.{Bounds}
use Rattle.pkops.specs.declared.Reason.{Reason}
use Rattle.pkops.specs.declared.Reason.TheVariants as reason
use Rattle.pkstack.specs.Shape.{NoMark, NoItem, NoMemo, Odd, Extension}
use Rattle.pkmachine.specs.Runs.{Raise, step_as}
use Rattle.pkmachine.specs.Knowledge.{Knowledge, Policy, Progress, Refusal, Lacks}
use Rattle.pkmachine.specs.Knowledge.{UnknownImport, OffList}
use Rattle.pkmachine.specs.Knowledge.{reason_of, advance}
use Rattle.pkmachine.specs.Faults.{Arrivals, everyone, IsOff, AsksOtherThan, AsksOffList}
use Rattle.pkmachine.specs.Faults.{HasFaultHere, rank, IsPairOf, IsFirstFault, HasNoFault}
use Rattle.pkmachine.specs.View.{off_pair}
use Rattle.pkmachine.specs.Witnesses.{Stands, Word}
use Rattle.pkmachine.proofs.Coverage.PermittedImports.{permitted_learned}
use Rattle.pkmachine.proofs.Coverage.ShownFaults.{IsLonger, turn}
use Rattle.pkmachine.proofs.Coverage.StepImports.{asked_listed, off_is_out, same_of}
use Rattle.pkmachine.proofs.Coverage.FaultsReached.{stands_for_all, off_list, has_fault, RefusedBy}
use Rattle.pkmachine.proofs.Coverage.FaultsReached.{by_, follows_ok, lacks_refused, wrong_refused}
use Rattle.pkmachine.proofs.Coverage.FaultsReached.{text_refused, off_refused_by}
use Rattle.pkmachine.proofs.Coverage.FaultsReached.{unknown_refused_by, left_refused, raise_refused}
use Rattle.pkmachine.proofs.Coverage.FaultsReached.{large_refused}

-- a pair off the list is refused
module _ (p : Policy) (l : Bounds) (i : Instruction) (k : Knowledge) (Here : Arrivals)
    (h : Stands k Here) where
  off_refused : (p' : Policy) (m n : List ℕ) → AsksOffList p' Here i m n
      → RefusedBy p' l i k Here h 9
  off_refused None m n f = absurd f.1
  off_refused (Some list) m n f =
      let s = f.0.some in
      let there = h.real s.0 s.1 in
      let a = f.0.each s.0 there Raise in
      by_ (Some list) l i k Here h (OffList m n)
      (λ q e. absurd
      (off_is_out list q.import m n (permitted_learned (Some list) _ i k q e)
      (asked_listed q s.0 (step_as Here.setting i s.0 Raise) m n
      (follows_ok (Some list) l i k Here h q e s.0 Raise there) a) f.1))
      (off_refused_by (Some list) l i k Here h m n s.0 Raise there a)

  unknown_refused : (p' : Policy) (m n : List ℕ) → AsksOtherThan Here i m n → IsOff p' m n
      → RefusedBy p' l i k Here h 8
  unknown_refused None m n two o = absurd o
  unknown_refused (Some list) m n two o =
      let (a, (x, y, b, differ)) = two in
      by_ (Some list) l i k Here h UnknownImport
      (λ q e.
      let first = asked_listed q a.0 (step_as Here.setting i a.0 a.1) m n
      (follows_ok (Some list) l i k Here h q e a.0 a.1 (h.real a.0 a.2)) a.4 in
      let second = asked_listed q b.0 (step_as Here.setting i b.0 b.1) x y
      (follows_ok (Some list) l i k Here h q e b.0 b.1 (h.real b.0 b.2)) b.4 in
      let same = same_of q.import list m n x y (permitted_learned (Some list) _ i k q e) first
      second in
      absurd (differ same.0 same.1))
      (unknown_refused_by (Some list) l i k Here h m n two)

  -- a fault is refused, for its own reason or for an earlier one
  pub refused_by : (r : Reason) → HasFaultHere p l Here i r → RefusedBy p l i k Here h (rank r)
  refused_by reason.MissingMark f = lacks_refused p l i k Here h NoMark f
  refused_by reason.MissingItem f = lacks_refused p l i k Here h NoItem f
  refused_by (reason.MissingMemo n) f = lacks_refused p l i k Here h (NoMemo n) f
  refused_by reason.OddItems f = lacks_refused p l i k Here h Odd f
  refused_by reason.WrongClass f = wrong_refused p l i k Here h f
  refused_by reason.NotText f = text_refused p l i k Here h f
  refused_by reason.UnknownImport f = unknown_refused p f.0 f.1 f.2 f.3
  refused_by reason.ImportOffList f = off_refused p f.0 f.1 f.2
  refused_by reason.LeftOver f = left_refused p l i k Here h f
  refused_by reason.NotAscii f = raise_refused p l i k Here h f
  refused_by reason.TooLarge f = large_refused p l i k Here h f
  refused_by _ f = absurd f

module _ (p : Policy) (l : Bounds) (i : Instruction) (k : Knowledge) (Here : Arrivals)
    (h : Stands k Here) where
  -- a fault that any run shows is refused
  refused_by_any : (r : Reason) → HasFaultHere p l (everyone Here) i r
      → RefusedBy p l i k (everyone Here) (stands_for_all k Here h) (rank r)
  refused_by_any = refused_by p l i k (everyone Here) (stands_for_all k Here h)

  -- if the checker accepts, there is no fault
  pub no_fault : (q : Progress) → advance Here.setting p l i k ≡ Ok q → HasNoFault p l Here i
  no_fault q e r f = let g = refused_by_any r f in cc

  -- the named pair is the one that every run imports
  pair_of : (r : Refusal) → advance Here.setting p l i k ≡ Err r
      → IsPairOf p Here i (reason_of r) (off_pair r)
  pair_of (OffList m n) e = off_list p l i k Here h m n e
  pair_of (Lacks NoMark) e = refl
  pair_of _ e = refl

  -- no fault comes before the named one
  first : (r : Refusal) → advance Here.setting p l i k ≡ Err r → (earlier : Reason)
      → rank earlier < turn r → HasFaultHere p l (everyone Here) i earlier → ⊥
  first r e earlier lt f =
      let (q, is, le) = refused_by_any earlier f in
      let same : q ≡ r = cc in omega (arith, ap turn same)

  -- if the checker refuses, the named fault is the first
  pub first_fault : (v : Word) → IsLonger p v.text → (r : Refusal)
      → advance Here.setting p l i k ≡ Err r → r ≢ Lacks Extension
      → IsFirstFault p l Here i (reason_of r) (off_pair r)
  first_fault v long r e x = record {
    fault = has_fault p l i k Here h v long r e x;
    first = first r e;
    asks = pair_of r e;
  }
