-- What callers see of an `Allow`.
use Rattle.std.specs.Prelude.{◌&&◌, Bool, codes, is_none, is_some}
use Rattle.toml.specs.Data.{Members, get_member}
use Rattle.toml.specs.View.{table_view}
use Rattle.pklist.specs.declared.allow.Allow.{Allow}
use Rattle.pklist.specs.declared.allow.costs.CostLimits.{CostLimits}
use Rattle.pkops.specs.Limits.{Bounds}
use Rattle.pklist.specs.ListFile.{Text, cost_limits_in, limits_in, lists_in, value_in}

-- the document of a list file
abbrev pub document_of : Allow → Members
document_of list = table_view list.document

-- the list contains this module and name
abbrev pub lists : Allow → Text → Text → Bool
lists list = lists_in (get_member (codes "imports") (document_of list))

-- the limits that the list sets
abbrev pub limits_of : Allow → Bounds
limits_of list = limits_in (get_member (codes "limits") (document_of list))

-- the list has a table `limits`
abbrev pub has_limits : Allow → Bool
has_limits list = is_some (get_member (codes "limits") (document_of list))

-- the limits that the list sets have one on memo numbers
abbrev pub says_numbers : Allow → Bool
says_numbers list =
    is_some (value_in (codes "numbers") (get_member (codes "limits") (document_of list)))

-- what the list says of the cost of loading
abbrev pub cost_limits_of : Allow → CostLimits
cost_limits_of list =
    cost_limits_in (get_member (codes "limits") (document_of list))
    (get_member (codes "rules") (document_of list))

-- nothing is said of the cost of loading
abbrev pub are_unsaid : CostLimits → Bool
are_unsaid said =
    is_none said.levels && is_none said.weight && is_none said.work && is_none said.clash
    && is_none said.memory && is_none said.builds
