-- Runs that end the same way, and what the end of one says about the other.
use Rattle.std.specs.Prelude.{◌≡◌, ℕ, ⊤, Bool, List, []}
use Rattle.pkimport.specs.Import.{Asked}
use Rattle.pkcheck.specs.Listing.{ImportsAreListed}
use Rattle.pkmachine.specs.Runs.{Event, State, WentOn, Raised, Stopped, Stuck}
use Rattle.pkmachine.specs.WholeRuns.{Ended, Reached, EndedBy, EndsWell}

-- the same objects, and the same events in the same order
pub record SameHistory (s t : State) : Type 0 where
  pub objects : s.objects ≡ t.objects
  pub events : s.events ≡ t.events

-- neither run is stuck: both reach the same stack, stop with the same object, or raise, with the
-- same history
abbrev pub SameEnd : Ended → Ended → Type 0
SameEnd (Reached s) (Reached t) = (s.shape.entries ≡ t.shape.entries) × SameHistory s t
SameEnd (EndedBy (Stopped x s)) (EndedBy (Stopped y t)) =
    (x ≡ y) × (s.shape.entries ≡ t.shape.entries) × SameHistory s t
SameEnd (EndedBy (Raised s)) (EndedBy (Raised t)) = SameHistory s t
SameEnd a b = ⊥

-- the run isn't stuck
abbrev pub IsFree : Ended → Type 0
IsFree (Reached state) = ⊤
IsFree (EndedBy (WentOn state)) = ⊥
IsFree (EndedBy (Raised state)) = ⊤
IsFree (EndedBy (Stopped result state)) = ⊤
IsFree (EndedBy (Stuck breach)) = ⊥

-- the events of a run up to its end; a stuck run has no final state, so it has none
abbrev pub events_at : Ended → List Event
events_at (Reached state) = state.events
events_at (EndedBy (WentOn state)) = state.events
events_at (EndedBy (Raised state)) = state.events
events_at (EndedBy (Stopped result state)) = state.events
events_at (EndedBy (Stuck breach)) = []

-- SameEnd is reflexive for runs that aren't stuck
abbrev pub SameAsItself : Type 0
SameAsItself = (end : Ended) → IsFree end → SameEnd end end

-- SameEnd is symmetric
abbrev pub SameEitherWay : Type 0
SameEitherWay = (first second : Ended) → SameEnd first second → SameEnd second first

-- SameEnd is transitive
abbrev pub SameAcross : Type 0
SameAcross =
    (first second third : Ended) → SameEnd first second → SameEnd second third
    → SameEnd first third

-- runs with the same end have equal events
abbrev pub SameEvents : Type 0
SameEvents = (first second : Ended) → SameEnd first second → events_at first ≡ events_at second

-- a run that ends well isn't stuck
abbrev pub WellIsFree : Type 0
WellIsFree = (list : List ℕ → List ℕ → Bool) (end : Ended) → EndsWell list end → IsFree end

-- if one of two runs with the same end ends well, so does the other
abbrev pub WellCarriesOver : Type 0
WellCarriesOver =
    (list : List ℕ → List ℕ → Bool) (first second : Ended)
    → SameEnd first second → EndsWell list first → EndsWell list second

-- if the imports of one of two runs with the same end are listed, so are those of the other
abbrev pub ListedCarriesOver : Type 0
ListedCarriesOver =
    (listed : List Asked) (first second : Ended)
    → SameEnd first second → ImportsAreListed listed first → ImportsAreListed listed second
