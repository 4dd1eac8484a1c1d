-- What exceeds a limit exceeds it however the pickle goes on.
use Rattle.std.proofs.Common.{◌≡◌, true, false, List, ◌++◌, inl, inr, Result, Ok, Err, sym, ap}
use Rattle.std.proofs.Common.{subst, ◌∙◌, arith}
use Rattle.pkops.specs.Spelling.{Instruction}
use Rattle.pkstack.specs.Shape.{Breach, and_then}
use Rattle.pkload.proofs.Accounts.{implies_across}
use Rattle.pkload.proofs.Loading.{billed_more}
use Rattle.pkload.specs.Bill.{Bill, all_billed, bill_before}
use Rattle.pkload.specs.Laws.{ExcessStays}
use Rattle.pkload.specs.Tally.{Implies}
use Rattle.pkload.specs.Tolls.{IsExcess, KeepsWithin}
use Rattle.pkload.specs.declared.tolls.Excess.{Excess}
use Rattle.pkload.specs.declared.tolls.Excess.TheVariants.{BuildsImport, HeavyKeys, OutOfMemory}
use Rattle.pkload.specs.declared.tolls.Tolls.{Tolls}
use Rattle.pkload.proofs.Grown.{Grows, IfGrows, all_grow}

behind : (x : Result Bill Breach) (front more : List Instruction) (b c : Bill)
    → and_then x (all_billed front) ≡ Ok b → and_then x (all_billed (front ++ more)) ≡ Ok c
    → all_billed more b ≡ Ok c
behind (Ok a) front more b c e f = ap (λ y. and_then y (all_billed more)) (sym e)
    ∙ sym (billed_more front more a) ∙ f
behind (Err r) front more b c e f = cc

module _ (tolls : Tolls) (b c : Bill) (h : Grows b c) (w : KeepsWithin tolls c.tally c.memory) where
  not_within : (excess : Excess) → IsExcess excess tolls b.tally b.memory → ⊥
  not_within HeavyKeys (inl e) = omega (arith, h.tally.weight, e, w.0.weight)
  not_within HeavyKeys (inr e) = omega (arith, h.tally.work, e, w.0.work)
  not_within BuildsImport e = not_both (subst (Implies true) e.1
      (subst (λ q. Implies q tolls.builds) e.0
      (implies_across b.tally.builds c.tally.builds tolls.builds h.tally.builds w.0.builds)))
    where
      not_both : Implies true false → ⊥
      not_both i = cc
  not_within OutOfMemory e = e
  not_within _ e = omega arith

pub excess_stays : ExcessStays
excess_stays excess tolls beginning front more bill after e x f w =
    not_within tolls bill after (subst (IfGrows bill)
    (behind (bill_before beginning) front more bill after e f) (all_grow more bill)) w excess x.0
