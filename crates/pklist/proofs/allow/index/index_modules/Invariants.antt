-- What the index has and what is still to come are together what the file lists.
use Rattle.std.proofs.Common.{◌≡◌}
use Rattle.std.specs.BTreeMap.{get_by_text}
use Rattle.toml.specs.Data.{get_member}
use Rattle.toml.specs.View.{members_view, table_view}
use Rattle.pklist.specs.ListFile.{Text, has_name}
use Rattle.pklist.proofs.ListFile.Index.{has_or}
use Rattle.pklist.proofs.allow.index.index_modules.Given as goal

abbrev pub invariant-loop-module_name : goal.invariant-loop-module_name
invariant-loop-module_name l =
    (m n : Text) → has_or (get_by_text l.index m) n
    (has_name n (get_member m (members_view l.module_name-iterator)))
    ≡ has_name n (get_member m (table_view l.modules))
