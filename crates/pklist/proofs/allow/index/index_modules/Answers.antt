-- A module goes from the file to the index, the first of two of the same name alone.
use Rattle.std.proofs.Common.{◌∙◌, string_bytes}
use Rattle.std.specs.BTreeMap.{get_by_text}
use Rattle.toml.specs.View.{members_view, view}
use Rattle.pklist.proofs.ListFile.Index.{has_none, module_past, module_added}
use Rattle.pklist.proofs.allow.index.index_modules.Goals as goal

pub loop-module_name-preserved : goal.loop-module_name-preserved
loop-module_name-preserved c m n =
    module_past (get_by_text c.loop-module_name.index) (string_bytes c.in-Some.module_name.now)
    (view c.in-Some.names.now) (members_view c.next.new.self) m n
    (rw c.as_str.ensures.value at c.if-not-contains_key.ensures)
    ∙ (rw c.in-Some.ensures.steps at (c.loop-module_name.invariant m n))

pub loop-module_name-preserved-in-Continue-branch-2
    : goal.loop-module_name-preserved-in-Continue-branch-2
loop-module_name-preserved-in-Continue-branch-2 c m n =
    module_added (get_by_text c.loop-module_name.index) (string_bytes c.in-Some.module_name.now)
    (view c.in-Some.names.now) (members_view c.next.new.self) m n
    (get_by_text c.put_module.new.index) c.in_ok-set.set
    (has_none _ (rw c.as_str.ensures.value at c.if-not-contains_key.ensures)) c.in_ok-set.ensures
    (rw c.as_str-then-not-contains_key.ensures.value at (c.in_ok-put_module.ensures m))
    ∙ (rw c.in-Some.ensures.steps at (c.loop-module_name.invariant m n))
