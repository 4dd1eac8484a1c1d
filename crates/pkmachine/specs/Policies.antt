-- Policies of the Rust code in terms of the checker's definitions.
use Rattle.std.specs.Prelude.{Some, None}
use Rattle.pkmachine.specs.declared.policy.Policy.{Policy as RustPolicy}
use Rattle.pkmachine.specs.declared.policy.Policy.TheVariants.{Listed, AnyImport}
use Rattle.pkmachine.specs.declared.policy.Permit.{Permit}
use Rattle.pkmachine.specs.declared.policy.Permit.TheVariants.{By, Pairs, Sorted}
use Rattle.pkmachine.specs.Knowledge.{Policy}
use Rattle.pklist.specs.Allow.{lists}
use Rattle.pklist.specs.Pairs.{found, have}

-- a list permits its pairs; without one, every import is permitted
abbrev pub policy_of : RustPolicy → Policy
policy_of (Listed list) = Some (lists list.now)
policy_of AnyImport = None

-- an array permits the pairs that it contains or that binary search finds in it
abbrev pub permit_of : Permit → Policy
permit_of (By policy) = policy_of policy
permit_of (Pairs pairs) = Some (have pairs.now)
permit_of (Sorted pairs) = Some (found pairs.now)
