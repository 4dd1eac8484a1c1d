-- The result of replaying a plain pickle to its end.
use Rattle.std.specs.Prelude.{◌≡◌, ◌<◌, ℕ, List, length}
use Rattle.pkops.specs.Limits.{Bounds}
use Rattle.pkmachine.specs.Runs.{Event}
use Rattle.pkjson.specs.Private.Arena.{Kept, holds}
use Rattle.pkjson.specs.Contents.{contents}
use Rattle.pkjson.specs.Export.{Results}
use Rattle.pkjson.specs.Private.Settled.{AreGivenBelow}

-- these are the objects after the run, and the result is one of them
pub record Replays (limits : Bounds) (bytes : List ℕ) (ks : List Kept) (x : ℕ) : Type 0 where
  pub events : List Event
  pub results : Results limits bytes x events
  pub holds : (n : ℕ) → holds ks n ≡ contents events n
  pub within : x < length ks
  pub closed : AreGivenBelow (length ks) ks
