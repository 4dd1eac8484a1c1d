-- A name that is put is in the set from then on, and no other one.
use Rattle.std.proofs.Common.{true, string_bytes}
use Rattle.std.proofs.lemmas.Map.Text.{btree_set_updates_text}
use Rattle.pklist.proofs.allow.index.put_name.Goals as goal
use Rattle.pklist.proofs.allow.index.put_name.Goals.{in-Ok, in-Err}

pub returns : goal.returns
returns c n =
    elim c.match-insert.branch [
      | in-Ok w ↦ rw w.result-is
          (rw c.in_ok-copy.ensures.ok at (btree_set_updates_text
          (string_bytes c.in_ok-copy.copy) c.args.set.now c.insert.new.self true
          w.in-Ok.ensures.updates n))
      | in-Err w ↦ rw w.result-is tt
    ]
