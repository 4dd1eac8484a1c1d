-- A look-up in a table of TOML is one among its members.
use Rattle.toml.proofs.Views.{table_get}
use Rattle.pklist.proofs.allow.rules.value_at.Goals as goal

pub returns : goal.returns
returns c = table_get c.get.result c.args.key.now c.args.table.now.entries c.get.ensures.value
