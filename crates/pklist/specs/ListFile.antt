-- The list file: a TOML document of this form, as the `toml` crate reads it.
--
--     version = 2
--     [imports]
--     collections = ["OrderedDict", "deque"]
--     "a.b" = ["c"]
--     [limits]
--     large = true
--     passed = 1_073_741_824
--     levels = 100
--     [rules]
--     build = "made"
--
-- Each name in the array of a module makes a permitted pair. A name given twice counts once, and a
-- table `imports` without a module permits nothing. The tables `limits` and `rules` and each of
-- their keys may be left out; version 1 has no such tables. With `large`, the limits of large data
-- replace the standard ones, except where a key sets its own. `levels`, `weight`, `work`, `clash`
-- and `memory` limit what loading costs, and have no standard value. `toml` reads the members of a
-- table in the byte order of their keys.
use Rattle.std.specs.Prelude.{◌==◌, ◌&&◌, ◌||◌, not, nat_le, ℕ, ℤ, pos, negsuc, Bool, true, false}
use Rattle.std.specs.Prelude.{List, length, codes, Option, Some, None, is_some, Result, Ok, Err}
use Rattle.std.specs.Prelude.{if◌then◌else◌}
use Rattle.std.specs.Str.{bytes_eq}
use Rattle.pkops.specs.Limits.{Bounds, greatest, greatest_large, large, standard}
use Rattle.toml.specs.Data.{Data, string, integer, boolean, table, array, Items, no_items, item}
use Rattle.toml.specs.Data.{Members, no_members, member, get_member}
use Rattle.toml.specs.Parse.{parse_document}
use Rattle.pklist.specs.declared.allow.costs.CostLimits.{CostLimits}
use Rattle.pklist.specs.declared.allow.error.AllowError.{AllowError}
use Rattle.pklist.specs.declared.allow.error.AllowError.TheVariants.{Syntax, Shape, Version}
use Rattle.pklist.specs.declared.allow.error.Where.TheVariants as part

-- the UTF-8 bytes of a text
abbrev pub Text : Type 0
Text = List ℕ

-- no error if the rule is kept, otherwise this one
abbrev pub kept_or : Bool → AllowError → Option AllowError
kept_or is_kept error = if is_kept then None else Some error

-- the first of two errors
abbrev pub or_else : Option AllowError → Option AllowError → Option AllowError
or_else (Some error) next = Some error
or_else None next = next

-- the number is 1 or 2
abbrev pub is_version : ℤ → Bool
is_version (pos n) = n == 1 || n == 2
is_version (negsuc n) = false

-- `version` is present, a whole number, and 1 or 2
abbrev pub version_fault : Option Data → Option AllowError
version_fault (Some (integer number)) = kept_or (is_version number) Version
version_fault _ = Some (Shape part.Version)

-- the version is 2, which allows limits, rules and substitutes
abbrev pub is_two : Option Data → Bool
is_two (Some (integer (pos n))) = n == 2
is_two _ = false

-- the key is that of a table beside `imports`, which version 2 allows
abbrev pub is_table_of_two : Text → Bool
is_table_of_two key =
    bytes_eq key (codes "limits") || bytes_eq key (codes "rules")
    || bytes_eq key (codes "substitutes")

-- the key is `version` or `imports`, or that of another table if these are allowed
abbrev pub is_top_key : Bool → Text → Bool
is_top_key limited key =
    bytes_eq key (codes "version") || bytes_eq key (codes "imports")
    || (limited && is_table_of_two key)

-- the document has no other key at the top level
abbrev pub keys_fault : Bool → Members → Option AllowError
keys_fault limited no_members = None
keys_fault limited (member key value rest) =
    or_else (kept_or (is_top_key limited key) (Shape part.TopKey)) (keys_fault limited rest)

-- a name is a non-empty string
abbrev pub is_name_value : Data → Bool
is_name_value (string text) = not (length text == 0)
is_name_value _ = false

-- all of them are names
abbrev pub are_names : Items → Bool
are_names no_items = true
are_names (item value rest) = is_name_value value && are_names rest

-- a module is not empty, and its value is an array of names
abbrev pub module_fault : Text → Data → Option AllowError
module_fault key (array values) =
    or_else (kept_or (not (length key == 0)) (Shape part.Module))
    (kept_or (are_names values) (Shape part.Name))
module_fault key _ = Some (Shape part.Module)

-- the first fault of the modules, in their byte order
abbrev pub modules_fault : Members → Option AllowError
modules_fault no_members = None
modules_fault (member key value rest) = or_else (module_fault key value) (modules_fault rest)

-- `imports` is present and is a table of valid modules
abbrev pub imports_fault : Option Data → Option AllowError
imports_fault (Some (table modules)) = modules_fault modules
imports_fault _ = Some (Shape part.Imports)

-- the value is `true`
abbrev pub is_true_value : Data → Bool
is_true_value (boolean value) = value
is_true_value _ = false

-- `large` selects the limits of large data
abbrev pub is_large : Option Data → Bool
is_large (Some value) = is_true_value value
is_large None = false

-- `large` is `true`
abbrev pub large_fault : Data → Option AllowError
large_fault value = kept_or (is_true_value value) (Shape part.Limit)

-- the greatest values that limits may have, for large data or not
abbrev pub greatest_where : Bool → Bounds
greatest_where is_large = if is_large then greatest_large else greatest

-- the values of limits that aren't set, for large data or not
abbrev pub standard_where : Bool → Bounds
standard_where is_large = if is_large then large else standard

-- the greatest limits on the levels and the weight of a key: one less than what is counted, since
-- nothing exceeds a greater limit
abbrev pub greatest_levels : ℕ
greatest_levels = 1_022

abbrev pub greatest_weight : ℕ
greatest_weight = 1_048_574

-- the number that says that levels or weights have no limit
abbrev pub unlimited_key : ℕ
unlimited_key = 4_294_967_295

-- the greatest value of limits on sums
abbrev pub greatest_sum : ℕ
greatest_sum = 9_223_372_036_854_775_807

-- the greatest value of a limit on what loading costs, or None if the key names none
abbrev pub greatest_cost : Text → Option ℕ
greatest_cost key =
    if bytes_eq key (codes "levels") then Some greatest_levels
    else if bytes_eq key (codes "weight") then Some greatest_weight
    else if bytes_eq key (codes "work") then Some greatest_sum
    else if bytes_eq key (codes "clash") then Some greatest_sum
    else if bytes_eq key (codes "memory") then Some greatest_sum
    else None

-- the greatest value of a key of `limits`, or None if there is no such key
abbrev pub greatest_at : Bounds → Text → Option ℕ
greatest_at most key =
    if bytes_eq key (codes "counted") then Some most.counted
    else if bytes_eq key (codes "stack") then Some most.stack
    else if bytes_eq key (codes "memo") then Some most.memo
    else if bytes_eq key (codes "depth") then Some most.depth
    else if bytes_eq key (codes "values") then Some most.values
    else if bytes_eq key (codes "passed") then Some most.passed
    else if bytes_eq key (codes "numbers") then Some most.numbers
    else greatest_cost key

-- the value is a whole number from 0 to the greatest one
abbrev pub is_limit : ℕ → Data → Bool
is_limit most (integer (pos n)) = nat_le n most
is_limit most _ = false

-- the value says that there is no limit on levels or weights
abbrev pub is_unlimited : Text → Data → Bool
is_unlimited key (integer (pos n)) =
    (bytes_eq key (codes "levels") || bytes_eq key (codes "weight")) && n == unlimited_key
is_unlimited key _ = false

-- the key names a limit, and its value is valid
abbrev pub limit_fault : Option ℕ → Data → Option AllowError
limit_fault (Some most) value = kept_or (is_limit most value) (Shape part.Limit)
limit_fault None value = Some (Shape part.LimitKey)

-- the key is `large` or names a limit, and its value is valid
abbrev pub key_fault : Bounds → Text → Data → Option AllowError
key_fault most key value =
    if bytes_eq key (codes "large")
    then large_fault value
    else if is_unlimited key value
    then None
    else limit_fault (greatest_at most key) value

-- the first fault of these keys, in their byte order
abbrev pub each_limit_fault : Bounds → Members → Option AllowError
each_limit_fault most no_members = None
each_limit_fault most (member key value rest) =
    or_else (key_fault most key value) (each_limit_fault most rest)

-- the first fault of the keys, whose greatest values depend on `large`
abbrev pub table_fault : Members → Option AllowError
table_fault limits =
    each_limit_fault (greatest_where (is_large (get_member (codes "large") limits))) limits

-- `limits`, if present, is a table of valid limits
abbrev pub limits_fault : Option Data → Option AllowError
limits_fault None = None
limits_fault (Some (table limits)) = table_fault limits
limits_fault (Some _) = Some (Shape part.Limits)

-- whether BUILD may take an object that an import gave: `any`, or `made`; None if the word is
-- another
abbrev pub build_word : Text → Option Bool
build_word text =
    if bytes_eq text (codes "any") then Some true
    else if bytes_eq text (codes "made") then Some false
    else None

-- what a value of `build` says
abbrev pub build_in : Option Data → Option Bool
build_in (Some (string text)) = build_word text
build_in _ = None

-- the key is `build`, and its value is valid
abbrev pub rule_fault : Text → Data → Option AllowError
rule_fault key value =
    if bytes_eq key (codes "build")
    then kept_or (is_some (build_in (Some value))) (Shape part.Rule)
    else Some (Shape part.RuleKey)

-- the first fault of these keys, in their byte order
abbrev pub each_rule_fault : Members → Option AllowError
each_rule_fault no_members = None
each_rule_fault (member key value rest) = or_else (rule_fault key value) (each_rule_fault rest)

-- `rules`, if present, is a table of valid rules
abbrev pub rules_fault : Option Data → Option AllowError
rules_fault None = None
rules_fault (Some (table rules)) = each_rule_fault rules
rules_fault (Some _) = Some (Shape part.Rules)

-- the value is a string, and so names a substitute
abbrev pub is_text_value : Data → Bool
is_text_value (string text) = true
is_text_value _ = false

-- the key isn't empty, and its value is a string
abbrev pub substitute_fault : Text → Data → Option AllowError
substitute_fault key value =
    kept_or (not (length key == 0) && is_text_value value) (Shape part.Substitute)

-- the first fault of these keys, in their byte order
abbrev pub each_substitute_fault : Members → Option AllowError
each_substitute_fault no_members = None
each_substitute_fault (member key value rest) =
    or_else (substitute_fault key value) (each_substitute_fault rest)

-- `substitutes`, if present, is a table of strings
abbrev pub substitutes_fault : Option Data → Option AllowError
substitutes_fault None = None
substitutes_fault (Some (table substitutes)) = each_substitute_fault substitutes
substitutes_fault (Some _) = Some (Shape part.Substitutes)

-- the first rule that the document breaks
abbrev pub fault_of_document : Members → Option AllowError
fault_of_document document =
    let version = get_member (codes "version") document in
    or_else (version_fault version)
    (or_else (keys_fault (is_two version) document)
    (or_else (imports_fault (get_member (codes "imports") document))
    (or_else (limits_fault (get_member (codes "limits") document))
    (or_else (rules_fault (get_member (codes "rules") document))
    (substitutes_fault (get_member (codes "substitutes") document))))))

-- the document, unless it has a fault
abbrev pub document_unless : Option AllowError → Members → Result Members AllowError
document_unless None document = Ok document
document_unless (Some error) document = Err error

-- the document, if the text is TOML and breaks no rule
abbrev pub judged_document : Option Members → Result Members AllowError
judged_document None = Err Syntax
judged_document (Some document) = document_unless (fault_of_document document) document

-- the list in a text, or its first error
abbrev pub list_of : Text → Result Members AllowError
list_of text = judged_document (parse_document text)

-- the value is this string
abbrev pub is_this_text : Text → Data → Bool
is_this_text text (string found) = bytes_eq found text
is_this_text text _ = false

-- one of the values is this name
abbrev pub items_have : Text → Items → Bool
items_have name no_items = false
items_have name (item value rest) = is_this_text name value || items_have name rest

-- the array of a module contains this name
abbrev pub has_name : Text → Option Data → Bool
has_name name (Some (array values)) = items_have name values
has_name name _ = false

-- the table `imports` has this module, and its array this name
abbrev pub lists_in : Option Data → Text → Text → Bool
lists_in (Some (table modules)) key name = has_name name (get_member key modules)
lists_in _ key name = false

-- the value of a limit, or the standard one if the key is absent
abbrev pub limit_or : (most standard : ℕ) → Option Data → ℕ
limit_or most standard (Some (integer (pos n))) = if nat_le n most then n else standard
limit_or most standard _ = standard

-- the limits that a table `limits` sets, given the greatest and the standard ones
abbrev pub limits_among : (most standard : Bounds) → Members → Bounds
limits_among most standard limits = record {
  counted = limit_or most.counted standard.counted (get_member (codes "counted") limits);
  stack = limit_or most.stack standard.stack (get_member (codes "stack") limits);
  memo = limit_or most.memo standard.memo (get_member (codes "memo") limits);
  depth = limit_or most.depth standard.depth (get_member (codes "depth") limits);
  values = limit_or most.values standard.values (get_member (codes "values") limits);
  passed = limit_or most.passed standard.passed (get_member (codes "passed") limits);
  numbers = limit_or most.numbers standard.numbers (get_member (codes "numbers") limits);
}

-- the limits that a table `limits` sets
abbrev pub limits_at : Members → Bounds
limits_at limits =
    let is = is_large (get_member (codes "large") limits) in
    limits_among (greatest_where is) (standard_where is) limits

-- the limits of a document; without a table `limits`, the standard ones
abbrev pub limits_in : Option Data → Bounds
limits_in (Some (table limits)) = limits_at limits
limits_in _ = standard

-- the limit in a value, if it is a whole number from 0 to the greatest one
abbrev pub limit_said : ℕ → Option Data → Option ℕ
limit_said most (Some (integer (pos n))) = if nat_le n most then Some n else None
limit_said most _ = None

-- the value of a key of a table, if both are there
abbrev pub value_in : Text → Option Data → Option Data
value_in key (Some (table members)) = get_member key members
value_in key _ = None

-- what the tables `limits` and `rules` of a document say of the cost of loading
abbrev pub cost_limits_in : (limits rules : Option Data) → CostLimits
cost_limits_in limits rules = record {
  levels = limit_said unlimited_key (value_in (codes "levels") limits);
  weight = limit_said unlimited_key (value_in (codes "weight") limits);
  work = limit_said greatest_sum (value_in (codes "work") limits);
  clash = limit_said greatest_sum (value_in (codes "clash") limits);
  memory = limit_said greatest_sum (value_in (codes "memory") limits);
  builds = build_in (value_in (codes "build") rules);
}
