-- List files as users write them, judged by the definitions.
use Rattle.std.proofs.Common.{◌≡◌, refl, codes, Bool, true, false, Err, Ok, Result, None, Some}
use Rattle.std.proofs.Common.{List, [], ◌∷◌, ◌++◌, map}
use Rattle.toml.proofs.OnLiterals.{toml_on_literals}
use Rattle.toml.specs.Data.{Members, get_member}
use Rattle.pkops.specs.Limits.{Bounds, large, standard}
use Rattle.pklist.specs.declared.allow.costs.CostLimits.{CostLimits}
use Rattle.pklist.specs.declared.allow.error.AllowError.{AllowError}
use Rattle.pklist.specs.declared.allow.error.AllowError.TheVariants.{Syntax, Shape, Version}
use Rattle.pklist.specs.declared.allow.error.Where.TheVariants as part
use Rattle.pklist.specs.ListFile.{Text, cost_limits_in, limits_in, list_of, lists_in}

-- what each text gives
abbrev Gives : {A : Type 0} → (Text → A) → List (Text × A) → Type 0
Gives read rows = map (λ row. read row.0) rows ≡ map (λ row. row.1) rows

imports_refused :
    Gives list_of
    ((codes "version = ", Err Syntax)
    ∷ (codes "version = 1.0", Err (Shape part.Version))
    ∷ (codes "version = 3\nlimits = 1", Err Version)
    ∷ (codes "version = 1\nlimits = 1", Err (Shape part.TopKey))
    ∷ (codes "version = 1\nimports = {}\nsubstitutes = {}", Err (Shape part.TopKey))
    ∷ (codes "version = 1", Err (Shape part.Imports))
    -- modules are judged in byte order, not in the order of the file
    ∷ (codes "version = 1\nimports = { b = [1], a = 2 }", Err (Shape part.Module))
    ∷ (codes "version = 1\nimports = { \"\" = [1] }", Err (Shape part.Module))
    ∷ (codes "version = 1\nimports = { a = [\"\"] }", Err (Shape part.Name))
    -- before the limits, and rules are no keys of version 1
    ∷ (codes "version = 2\nlimits = 1", Err (Shape part.Imports))
    ∷ (codes "version = 1\nimports = {}\nrules = {}", Err (Shape part.TopKey))
    ∷ [])
unfolding toml_on_literals
imports_refused = refl

-- the text is a list that contains the pair
abbrev has_pair : Result Members AllowError → Text → Text → Bool
has_pair (Ok list) key name = lists_in (get_member (codes "imports") list) key name
has_pair (Err error) key name = false

abbrev two_modules : Text
two_modules = codes "version = 1\nimports = { a = [\"b\", \"c\"], \"a.b\" = [\"c\"] }"

-- a name of another module isn't listed
pairs_listed :
    (has_pair (list_of two_modules) (codes "a") (codes "c") ≡ true)
    × (has_pair (list_of two_modules) (codes "a.b") (codes "c") ≡ true)
    × (has_pair (list_of two_modules) (codes "a.b") (codes "b") ≡ false)
unfolding toml_on_literals
pairs_listed = (refl, refl, refl)

-- a list of version 2 that ends with this, without imports
abbrev no_imports : Text → Text
no_imports rest = codes "version = 2\nimports = {}\n" ++ rest

-- the table of limits is judged before its keys
limits_refused :
    Gives (λ text. list_of (no_imports text))
    ((codes "limits = 1", Err (Shape part.Limits))
    ∷ (codes "limits = { stack = 1000001 }", Err (Shape part.Limit))
    ∷ (codes "limits = { heap = 1 }", Err (Shape part.LimitKey))
    -- the keys are judged in the order of their bytes, `large` among them, which must be `true`
    ∷ (codes "limits = { large = false, heap = 1 }", Err (Shape part.LimitKey))
    ∷ (codes "limits = { most = 1, large = false }", Err (Shape part.Limit))
    ∷ (codes "limits = { large = true, stack = 4294967296 }", Err (Shape part.Limit))
    -- the limits on costs have their own greatest values
    ∷ (codes "limits = { levels = 4294967296 }", Err (Shape part.Limit))
    -- no key has more levels or a greater weight than are counted
    ∷ (codes "limits = { levels = 1023 }", Err (Shape part.Limit))
    ∷ (codes "limits = { weight = 1048575 }", Err (Shape part.Limit))
    ∷ (codes "limits = { weight = 4294967294 }", Err (Shape part.Limit))
    ∷ (codes "limits = { work = -1 }", Err (Shape part.Limit))
    ∷ [])
unfolding toml_on_literals
limits_refused = refl

-- the limits that a list sets
abbrev limits_read : Result Members AllowError → Bounds
limits_read (Ok list) = limits_in (get_member (codes "limits") list)
limits_read (Err error) = standard

limits_set :
    Gives (λ text. limits_read (list_of (no_imports text)))
    ((codes "limits = { passed = 16777217 }", record standard { passed = 16_777_217 })
    ∷ (codes "limits = { large = true, passed = 16777217 }", record large { passed = 16_777_217 })
    -- `large` and another limit together
    ∷ (codes "limits = { stack = 1000001, large = true }", record large { stack = 1_000_001 })
    ∷ (codes "limits = { numbers = 1000000 }", record standard { numbers = 1_000_000 })
    ∷ [])
unfolding toml_on_literals
limits_set = refl

-- the rules are judged behind the limits, the substitutes last, and each table before its keys
rules_refused :
    Gives (λ text. list_of (no_imports text))
    ((codes "limits = 1\nrules = 1", Err (Shape part.Limits))
    ∷ (codes "rules = 1", Err (Shape part.Rules))
    ∷ (codes "rules = { call = 1 }", Err (Shape part.RuleKey))
    ∷ (codes "rules = { build = \"all\" }", Err (Shape part.Rule))
    ∷ (codes "rules = 1\nsubstitutes = 1", Err (Shape part.Rules))
    ∷ (codes "substitutes = []", Err (Shape part.Substitutes))
    ∷ (codes "substitutes = { a = 1 }", Err (Shape part.Substitute))
    ∷ (codes "substitutes = { \"\" = \"a\" }", Err (Shape part.Substitute))
    ∷ (codes "[substitutes]\na.b = \"c\"", Err (Shape part.Substitute))
    ∷ [])
unfolding toml_on_literals
rules_refused = refl

-- what a list says of the cost of loading
abbrev nothing : CostLimits
nothing = record {
  levels = None;
  weight = None;
  work = None;
  clash = None;
  memory = None;
  builds = None;
}

abbrev costs_read : Result Members AllowError → CostLimits
costs_read (Ok list) =
    cost_limits_in (get_member (codes "limits") list) (get_member (codes "rules") list)
costs_read (Err error) = nothing

costs_said :
    Gives (λ text. costs_read (list_of (no_imports text)))
    ((codes "limits = { stack = 1 }", nothing)
    ∷ (codes "limits = { levels = 3, work = 7 }", record nothing { levels = Some 3; work = Some 7 })
    ∷ (
      codes "limits = { weight = 1, clash = 0, memory = 9 }",
      record nothing { weight = Some 1; clash = Some 0; memory = Some 9 },
    )
    ∷ (
      codes "limits = { levels = 1022, weight = 1048574 }",
      record nothing { levels = Some 1_022; weight = Some 1_048_574 },
    )
    -- the number that says that there is no limit
    ∷ (
      codes "limits = { levels = 4294967295, weight = 4294967295 }",
      record nothing { levels = Some 4_294_967_295; weight = Some 4_294_967_295 },
    )
    ∷ (codes "rules = { build = \"made\" }", record nothing { builds = Some false })
    ∷ (codes "rules = { build = \"any\" }", record nothing { builds = Some true })
    ∷ [])
unfolding toml_on_literals
costs_said = refl
