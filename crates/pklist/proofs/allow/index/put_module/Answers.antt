-- A module that is put changes what is found under its name, and under no other.
use Rattle.std.proofs.Common.{Some, string_bytes}
use Rattle.std.proofs.lemmas.Map.Text.{btree_map_updates_text}
use Rattle.pklist.proofs.allow.index.put_module.Goals as goal

pub returns-in-Ok : goal.returns-in-Ok
returns-in-Ok c m =
    rw c.in_ok-key.ensures.ok at (btree_map_updates_text
    (string_bytes c.in_ok-key.key) c.args.index.now c.insert.new.self
    (Some c.args.set) c.in-Ok.ensures.updates m)
