-- What the objects of a run cost, read off its events.
use Rattle.std.specs.Prelude.{ℕ, if◌then◌else◌, ltb, List, [], ◌∷◌, ◌++◌, drop, length, map, max}
use Rattle.std.specs.Prelude.{set, take, Option, Some, None, slice_get, false, unwrap_or, ◌||◌}
use Rattle.std.specs.Prelude.{◌&&◌}
use Rattle.pkops.specs.Spelling.{Instruction}
use Rattle.pkmachine.specs.Runs.{Event, Import, Did}
use Rattle.pkload.specs.Heft.{Heft, heft_of}
use Rattle.pkload.specs.declared.tally.Tally.{Tally}
use Rattle.pkload.specs.Tally.{no_tally, with_operation}

-- what the objects of a run cost, in the order in which they appeared, and what was counted
pub record Account : Type 0 where
  pub hefts : List Heft
  pub tally : Tally

-- the cost of no object, for a number that names none
abbrev pub no_heft : Heft
no_heft = record { weight = 0; depth = 0; salted = false; imported = false }

-- the cost of the object with this number
abbrev pub heft_at : List Heft → ℕ → Heft
heft_at hefts number = unwrap_or (slice_get hefts number) no_heft

-- an earlier object that was answered again costs at least what the answer does, since it may hold
-- the operands now. It is imported if an import answered it
abbrev pub heavier : Heft → Heft → Heft
heavier earlier answer = record {
  weight = max earlier.weight answer.weight;
  depth = max earlier.depth answer.depth;
  salted = earlier.salted && answer.salted;
  imported = earlier.imported || answer.imported;
}

-- the costs after the object with this number was answered again
abbrev pub answered_again : Heft → ℕ → List Heft → List Heft
answered_again answer number hefts = set hefts number (heavier (heft_at hefts number) answer)

-- the costs after the object with this number was answered: one more if it is new
abbrev pub answered : Heft → ℕ → List Heft → List Heft
answered answer number hefts =
    if ltb number (length hefts)
    then answered_again answer number hefts
    else hefts ++ answer ∷ []

-- the costs after an instruction with these operands and this result
abbrev pub hefts_with : Instruction → List ℕ → Option ℕ → List Heft → List Heft
hefts_with i operands None hefts = hefts
hefts_with i operands (Some result) hefts =
    answered (heft_of i (map (heft_at hefts) operands)) result hefts

-- the account after one more event
abbrev pub account_with : Account → Event → Account
account_with account (Import module_name name) = account
account_with account (Did i operands result) = record {
  hefts = hefts_with i operands result account.hefts;
  tally = with_operation i.op (map (heft_at account.hefts) operands) account.tally;
}

-- the account after these events
abbrev pub account_along : Account → List Event → Account
account_along account [] = account
account_along account (event ∷ events) = account_along (account_with account event) events

-- the account at the start
abbrev pub no_account : Account
no_account = record { hefts = []; tally = no_tally }

-- the account of a run with these events
abbrev pub account_of : List Event → Account
account_of events = account_along no_account events

-- what is counted after so many events
abbrev pub tally_since : ℕ → List Event → Tally
tally_since count events =
    (account_along (record { hefts = (account_of (take count events)).hefts; tally = no_tally })
    (drop count events)).tally
