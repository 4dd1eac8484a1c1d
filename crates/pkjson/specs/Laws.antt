-- Laws of the definitions.
use Rattle.std.specs.Prelude.{◌≡◌, ℕ, List, length, replicate}
use Rattle.serde_json.specs.Data.{Data, depth}
use Rattle.pkops.specs.Spelling.{Instruction}
use Rattle.pkmachine.specs.Runs.{State}
use Rattle.pkmachine.specs.WholeRuns.{run}
use Rattle.pkjson.specs.Plain.{goes_on, plain_run}
use Rattle.pkjson.specs.Unfolds.{Heap, Unfolds, count}
use Rattle.pkjson.specs.Derived.{Derives}

-- an object unfolds to at most one value
abbrev pub OneValue : Type 0
OneValue = (h : Heap) (x : ℕ) (v w : Data) → Unfolds h x v → Unfolds h x w → w ≡ v

-- if an object unfolds to a value, a finite derivation shows it, with the depth and count of that
-- value
abbrev pub AreDerivations : Type 0
AreDerivations =
    (h : Heap) (x : ℕ) (v : Data)
    → (Unfolds h x v → Derives h x v (depth v) (count v))
    × ((d c : ℕ) → Derives h x v d c → Unfolds h x v × (d ≡ depth v) × (c ≡ count v))

-- the plain run is the run whose outcomes are all `goes_on`
abbrev pub PlainRunsAreRuns : Type 0
PlainRunsAreRuns =
    (p : List Instruction) (s : State)
    → run p (replicate (length p) goes_on) s ≡ plain_run p s
