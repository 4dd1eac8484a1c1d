-- Unfolding is unique, and there is a derivation exactly where the relation holds.
use Rattle.pkjson.proofs.Values.Derivations.{derives, derived}
use Rattle.pkjson.proofs.Values.OneValue.{unique}
use Rattle.pkjson.proofs.laws.unfolding.Goals as goal

pub returns : goal.returns
returns c = record {
  one = λ h x v w u t. unique h x v w u t;
  derivations = λ h x v. (derived h x v, derives h x v);
}
