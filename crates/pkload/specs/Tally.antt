-- What the keys of a pickle cost together, and whether BUILD took an imported object.
use Rattle.std.specs.Prelude.{◌+◌, ◌≤◌, max, Bool, true, false, if◌then◌else◌, ◌||◌}
use Rattle.std.specs.Prelude.{List, [], ◌∷◌, IsTrue, ⊤}
use Rattle.pkops.specs.declared.Op.{Op}
use Rattle.pkops.specs.declared.Op.TheVariants as op
use Rattle.pkload.specs.declared.tally.Tally.{Tally}
use Rattle.pkload.specs.Heft.{Heft}
use Rattle.pkload.specs.Keys.{keys_of}

-- nothing was counted
abbrev pub no_tally : Tally
no_tally = record { levels = 0; weight = 0; work = 0; clash = 0; builds = false }

-- the tally with one more key
abbrev pub with_key : Tally → Heft → Tally
with_key tally key = record tally {
  levels = max tally.levels key.depth;
  weight = max tally.weight key.weight;
  work = tally.work + key.weight;
  clash = if key.salted then tally.clash else tally.clash + key.weight;
}

-- the tally with these keys
abbrev pub with_keys : Tally → List Heft → Tally
with_keys tally [] = tally
with_keys tally (key ∷ keys) = with_key (with_keys tally keys) key

-- the first of these was imported
abbrev pub is_first_imported : List Heft → Bool
is_first_imported [] = false
is_first_imported (heft ∷ hefts) = heft.imported

-- the instruction is a BUILD, and its receiver was imported
abbrev pub builds_import : Op → List Heft → Bool
builds_import op.Build operands = is_first_imported operands
builds_import _ operands = false

-- the tally, where BUILD may have taken an imported object
abbrev pub building : Bool → Tally → Tally
building builds tally = record tally { builds = tally.builds || builds }

-- the tally with what an operation on these operands costs
abbrev pub with_operation : Op → List Heft → Tally → Tally
with_operation o operands tally =
    building (builds_import o operands) (with_keys tally (keys_of o operands))

-- whether one bool implies another
abbrev pub Implies : Bool → Bool → Type 0
Implies true after = IsTrue after
Implies false after = ⊤

-- each count of one tally is at most the other's
pub record IsAtMost (a b : Tally) : Type 0 where
  pub levels : a.levels ≤ b.levels
  pub weight : a.weight ≤ b.weight
  pub work : a.work ≤ b.work
  pub clash : a.clash ≤ b.clash
  pub builds : Implies a.builds b.builds
