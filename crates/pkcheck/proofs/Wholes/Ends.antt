-- Two runs with the same end.
use Rattle.std.proofs.Common.{refl, sym, subst, ◌∙◌}
use Rattle.pkmachine.specs.Covers.{Pointwise, imports_of}
use Rattle.pkcheck.specs.Ends.{SameHistory, SameAsItself, SameEitherWay, SameAcross, SameEvents}
use Rattle.pkcheck.specs.Ends.{WellIsFree, WellCarriesOver, ListedCarriesOver}
use Rattle.pkcheck.specs.Listing.{IsBeginning, StandsFor}
use Rattle.pkmachine.specs.Runs.{State, WentOn, Raised, Stopped, Stuck}
use Rattle.pkmachine.specs.WholeRuns.{Reached, EndedBy, AllListed}

same_history : (s : State) → SameHistory s s
same_history s = record { objects = refl; events = refl }

pub same_as_itself : SameAsItself
same_as_itself (Reached s) free = (refl, same_history s)
same_as_itself (EndedBy (WentOn s)) free = absurd free
same_as_itself (EndedBy (Raised s)) free = same_history s
same_as_itself (EndedBy (Stopped x s)) free = (refl, refl, same_history s)
same_as_itself (EndedBy (Stuck b)) free = absurd free

history_back : (s t : State) → SameHistory s t → SameHistory t s
history_back s t h = record { objects = sym h.objects; events = sym h.events }

pub same_either_way : SameEitherWay
same_either_way (Reached s) (Reached t) h = (sym h.0, history_back s t h.1)
same_either_way (EndedBy (Stopped x s)) (EndedBy (Stopped y t)) h =
    (sym h.0, sym h.1, history_back s t h.2)
same_either_way (EndedBy (Raised s)) (EndedBy (Raised t)) h = history_back s t h
same_either_way a b h = absurd h

history_across : (s t u : State) → SameHistory s t → SameHistory t u → SameHistory s u
history_across s t u h g = record { objects = h.objects ∙ g.objects; events = h.events ∙ g.events }

pub same_across : SameAcross
same_across (Reached s) (Reached t) (Reached u) h g = (h.0 ∙ g.0, history_across s t u h.1 g.1)
same_across (EndedBy (Stopped x s)) (EndedBy (Stopped y t)) (EndedBy (Stopped z u)) h g =
    (h.0 ∙ g.0, h.1 ∙ g.1, history_across s t u h.2 g.2)
same_across (EndedBy (Raised s)) (EndedBy (Raised t)) (EndedBy (Raised u)) h g =
    history_across s t u h g
same_across (Reached s) (Reached t) c h g = absurd g
same_across (EndedBy (Stopped x s)) (EndedBy (Stopped y t)) c h g = absurd g
same_across (EndedBy (Raised s)) (EndedBy (Raised t)) c h g = absurd g
same_across a b c h g = absurd h

pub same_events : SameEvents
same_events (Reached s) (Reached t) h = h.1.events
same_events (EndedBy (Stopped x s)) (EndedBy (Stopped y t)) h = h.2.events
same_events (EndedBy (Raised s)) (EndedBy (Raised t)) h = h.events
same_events a b h = absurd h

pub well_is_free : WellIsFree
well_is_free list (Reached s) h = tt
well_is_free list (EndedBy (WentOn s)) h = h
well_is_free list (EndedBy (Raised s)) h = tt
well_is_free list (EndedBy (Stopped x s)) h = tt
well_is_free list (EndedBy (Stuck b)) h = h

pub well_carries_over : WellCarriesOver
well_carries_over list (Reached s) (Reached t) same h =
    subst (λ es. AllListed list (imports_of es)) same.1.events h
well_carries_over list (EndedBy (Stopped x s)) (EndedBy (Stopped y t)) same h =
    (sym same.1 ∙ h.0, subst (λ es. AllListed list (imports_of es)) same.2.events h.1)
well_carries_over list (EndedBy (Raised s)) (EndedBy (Raised t)) same h =
    subst (λ es. AllListed list (imports_of es)) same.events h
well_carries_over list a b same h = absurd same

pub listed_carries_over : ListedCarriesOver
listed_carries_over listed (Reached s) (Reached t) same h =
    subst (λ es. IsBeginning listed (imports_of es)) same.1.events h
listed_carries_over listed (EndedBy (Stopped x s)) (EndedBy (Stopped y t)) same h =
    subst (λ es. Pointwise StandsFor listed (imports_of es)) same.2.events h
listed_carries_over listed (EndedBy (Raised s)) (EndedBy (Raised t)) same h =
    subst (λ es. IsBeginning listed (imports_of es)) same.events h
listed_carries_over listed a b same h = absurd same
