-- No rule of the list file has the fault OutOfMemory.
use Rattle.std.proofs.Common.{◌≢◌, ℕ, Bool, true, false, cond, Option, Some, None, codes}
use Rattle.std.specs.Str.{bytes_eq}
use Rattle.toml.specs.Data.{Data, integer, array, table, Members, no_members, member, get_member}
use Rattle.pkops.specs.Limits.{Bounds}
use Rattle.pklist.specs.declared.allow.error.AllowError.{AllowError}
use Rattle.pklist.specs.declared.allow.error.AllowError.TheVariants.{OutOfMemory}
use Rattle.pklist.specs.ListFile.{Text, kept_or, or_else, is_two, version_fault, keys_fault}
use Rattle.pklist.specs.ListFile.{module_fault, modules_fault, imports_fault, greatest_at}
use Rattle.pklist.specs.ListFile.{greatest_where, is_large, is_unlimited, key_fault, limit_fault}
use Rattle.pklist.specs.ListFile.{each_limit_fault, limits_fault, fault_of_document}
use Rattle.pklist.specs.ListFile.{each_rule_fault, rules_fault, each_substitute_fault}
use Rattle.pklist.specs.ListFile.{substitutes_fault}

abbrev IsOfRule : Option AllowError → Type 0
IsOfRule fault = fault ≢ Some OutOfMemory

kept_or_is : (is_kept : Bool) (error : AllowError) → error ≢ OutOfMemory
    → IsOfRule (kept_or is_kept error)
kept_or_is true error other = λ h. cc
kept_or_is false error other = λ h. other (cc)

or_else_is : {first next : Option AllowError} → IsOfRule first → IsOfRule next
    → IsOfRule (or_else first next)
or_else_is {first = Some error} first_is next_is = first_is
or_else_is {first = None} first_is next_is = next_is

version_is : (value : Option Data) → IsOfRule (version_fault value)
version_is (Some (integer number)) = kept_or_is _ _ (λ h. cc)
version_is _ = λ h. cc

keys_is : (limited : Bool) (document : Members) → IsOfRule (keys_fault limited document)
keys_is limited no_members = λ h. cc
keys_is limited (member key value rest) =
    or_else_is (kept_or_is _ _ (λ h. cc)) (keys_is limited rest)

module_is : (key : Text) (value : Data) → IsOfRule (module_fault key value)
module_is key (array values) = or_else_is (kept_or_is _ _ (λ h. cc)) (kept_or_is _ _ (λ h. cc))
module_is key _ = λ h. cc

modules_is : (modules : Members) → IsOfRule (modules_fault modules)
modules_is no_members = λ h. cc
modules_is (member key value rest) = or_else_is (module_is key value) (modules_is rest)

imports_is : (value : Option Data) → IsOfRule (imports_fault value)
imports_is (Some (table modules)) = modules_is modules
imports_is _ = λ h. cc

limit_is : (most : Option ℕ) (value : Data) → IsOfRule (limit_fault most value)
limit_is (Some most) value = kept_or_is _ _ (λ h. cc)
limit_is None value = λ h. cc

either : (is : Bool) {one other : Option AllowError} → IsOfRule one → IsOfRule other
    → IsOfRule (cond is one other)
either true h g = h
either false h g = g

key_is : (most : Bounds) (key : Text) (value : Data) → IsOfRule (key_fault most key value)
key_is most key value = either (bytes_eq key (codes "large")) (kept_or_is _ _ (λ h. cc))
    (either (is_unlimited key value) (λ h. cc) (limit_is (greatest_at most key) value))

each_limit_is : (most : Bounds) (limits : Members) → IsOfRule (each_limit_fault most limits)
each_limit_is most no_members = λ h. cc
each_limit_is most (member key value rest) =
    or_else_is (key_is most key value) (each_limit_is most rest)

limits_is : (value : Option Data) → IsOfRule (limits_fault value)
limits_is (Some (table limits)) =
    each_limit_is (greatest_where (is_large (get_member (codes "large") limits))) limits
limits_is _ = λ h. cc

each_rule_is : (rules : Members) → IsOfRule (each_rule_fault rules)
each_rule_is no_members = λ h. cc
each_rule_is (member key value rest) =
    or_else_is (either (bytes_eq key (codes "build")) (kept_or_is _ _ (λ h. cc)) (λ h. cc))
    (each_rule_is rest)

rules_is : (value : Option Data) → IsOfRule (rules_fault value)
rules_is (Some (table rules)) = each_rule_is rules
rules_is _ = λ h. cc

each_substitute_is : (substitutes : Members) → IsOfRule (each_substitute_fault substitutes)
each_substitute_is no_members = λ h. cc
each_substitute_is (member key value rest) =
    or_else_is (kept_or_is _ _ (λ h. cc)) (each_substitute_is rest)

substitutes_is : (value : Option Data) → IsOfRule (substitutes_fault value)
substitutes_is (Some (table substitutes)) = each_substitute_is substitutes
substitutes_is _ = λ h. cc

pub fault_is : (document : Members) → fault_of_document document ≢ Some OutOfMemory
fault_is document =
    or_else_is (version_is (get_member (codes "version") document))
    (or_else_is (keys_is (is_two (get_member (codes "version") document)) document)
    (or_else_is (imports_is (get_member (codes "imports") document))
    (or_else_is (limits_is (get_member (codes "limits") document))
    (or_else_is (rules_is (get_member (codes "rules") document))
    (substitutes_is (get_member (codes "substitutes") document))))))
