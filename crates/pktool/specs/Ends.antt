-- What the status of a command says about standard output.
use Rattle.std.specs.Prelude.{◌≡◌, ⊤, ℕ, List, Option, Result, IsOkAnd}
use Rattle.std.specs.Io.KnownBytes.{Appends, Keeps}
use Rattle.pkprint.specs.declared.Outcome.{Outcome}
use Rattle.pkprint.specs.declared.Outcome.TheVariants.{Done, Refused, Unread}

-- the status of an outcome
abbrev pub status_of : Outcome → ℕ
status_of Done = 0
status_of Refused = 1
status_of Unread = 2

-- the outcome is that of an answer
abbrev pub HasAnswer : Outcome → Type 0
HasAnswer Done = ⊤
HasAnswer Refused = ⊤
HasAnswer Unread = ⊥

-- a text was written that is right for this outcome, and nothing else
abbrev pub Writes : Option (List ℕ) → Option (List ℕ) → (List ℕ → Outcome → Type 0) → Outcome
    → Type 0
Writes before after IsRight outcome =
    (text : List ℕ) × IsRight text outcome × Appends before after text

-- a text was written that is right for the outcome with this status, and nothing else
abbrev pub Reports : Option (List ℕ) → Option (List ℕ) → (List ℕ → Outcome → Type 0) → ℕ → Type 0
Reports before after IsRight status =
    (outcome : Outcome) × (status ≡ status_of outcome) × Writes before after IsRight outcome

-- a command ended with the outcome that has this status, and what was written before stays written
abbrev pub Stays : {E : Type 0} → Result Outcome E → Option (List ℕ) → Option (List ℕ) → ℕ
    → Type 0
Stays ended before after status =
    IsOkAnd ended (λ outcome. (status ≡ status_of outcome) × Keeps before after)
