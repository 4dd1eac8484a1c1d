-- The optimized form of a pickle: where it is written, and the line that reports it.
use Rattle.std.specs.Prelude.{◌≡◌, ℕ, List, ◌++◌, length, codes, decimal, Option}
use Rattle.std.specs.Io.KnownBytes.{Appends}
use Rattle.pkops.specs.Limits.{Bounds}
use Rattle.pkops.specs.Printed.{refusal_text}
use Rattle.pkops.specs.declared.Refusal.{Refusal}
use Rattle.pkopt.specs.Answer.{IsNotOptimized, Optimizes, TakesAsChecked}
use Rattle.pkprint.specs.Verdict.{no_line}
use Rattle.pkprint.specs.declared.Outcome.{Outcome}
use Rattle.pkprint.specs.declared.Outcome.TheVariants.{Done, Refused, Unread}

-- `N bytes to M bytes`
abbrev pub sizes_line : ℕ → ℕ → List ℕ
sizes_line before after =
    decimal before ++ (codes " bytes to " ++ (decimal after ++ codes " bytes\n"))

-- the optimized form of the pickle at the front of the bytes was put in the place, and the line
-- reports the sizes of both
pub record IsPut (limits : Bounds) (bytes : List ℕ) (puts : List ℕ → Type 0)
    (before after : Option (List ℕ)) : Type 0 where
  pub form : List ℕ
  pub optimizes : Optimizes limits bytes form
  pub taken : ℕ
  pub takes : TakesAsChecked limits bytes taken
  pub put : puts form
  pub line : Appends before after (sizes_line taken (length form))

-- the pickle has no optimized form, and the line says why
pub record IsNone (limits : Bounds) (bytes : List ℕ) (before after : Option (List ℕ))
    : Type 0 where
  pub refusal : Refusal
  pub refused : IsNotOptimized limits bytes refusal
  pub line : Appends before after (no_line (refusal_text refusal))

-- how an optimization ends: with the form in its place, or with a refusal that leaves the place
-- unchanged
abbrev pub EndsIn : {P : Type 0} → Bounds → List ℕ → (P → P → List ℕ → Type 0) → P → P
    → Option (List ℕ) → Option (List ℕ) → Outcome → Type 0
EndsIn limits bytes puts old new before after Done =
    IsPut limits bytes (puts old new) before after
EndsIn limits bytes puts old new before after Refused =
    IsNone limits bytes before after × (new ≡ old)
EndsIn limits bytes puts old new before after Unread = ⊥
