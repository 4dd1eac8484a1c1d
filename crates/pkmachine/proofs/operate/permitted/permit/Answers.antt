-- A policy that is a list permits no unknown pair.
use Rattle.std.proofs.Common.{◌≡◌, Err, false, inl, refl, sym, ◌∙◌}
use Rattle.std.specs.Prelude.{None, Some, is_none}
use Rattle.pkmachine.specs.Policies.{permit_of}
use Rattle.pkmachine.specs.Knowledge.{Policy, UnknownImport, unknown_pair}
use Rattle.pkmachine.proofs.operate.permitted.permit.Goals as goal

unknown_refused : (policy : Policy) → is_none policy ≡ false
    → unknown_pair policy ≡ Err UnknownImport
unknown_refused (Some list) h = refl
unknown_refused None h = cc

pub returns-in-Unknown-clause-err : goal.returns-in-Unknown-clause-err
returns-in-Unknown-clause-err c = inl (
  UnknownImport,
  rw c.in-Unknown.is (unknown_refused (permit_of c.args.policy.now)
      (sym c.permits_all.ensures ∙ c.if-permits_all.false)),
  refl,
  refl,
)
