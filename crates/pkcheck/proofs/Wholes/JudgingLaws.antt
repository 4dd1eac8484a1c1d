-- What the crates below prove of the frame rules and of a step of the machine.
use Rattle.pklist.specs.Bounded.{NamesAreBounded}
use Rattle.pkmachine.specs.declared.policy.Permit.{Permit}
use Rattle.pkmachine.specs.declared.policy.Permit.TheVariants.{By, Pairs, Sorted}
use Rattle.pkmachine.specs.declared.policy.Policy.TheVariants.{Listed, AnyImport}
use Rattle.pkmachine.specs.Policies.{permit_of}
use Rattle.pkmachine.specs.StepLaws.{IsBounded, StepLaws}
use Rattle.pkcheck.proofs.Wholes.FramesSoFar.{FrameLaws}

pub record JudgingLaws : Type 0 where
  pub frames : FrameLaws
  pub steps : StepLaws

-- the names that a permit lists are of bounded length
pub bounded : NamesAreBounded → (permit : Permit) → IsBounded (permit_of permit)
bounded law (By (Listed list)) = law.of_list list.now
bounded law (Pairs pairs) = law.of_array pairs.now
bounded law (Sorted pairs) = law.of_search pairs.now
bounded law (By AnyImport) = tt
