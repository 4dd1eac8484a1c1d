-- The same bytes have one end under the same settings, but for refused allocations and failed
-- reads.
use Rattle.std.specs.Prelude.{◌≡◌, ◌≢◌, ◌≤◌, List, ℕ, Result, Ok, Err, Some, length, option_map}
use Rattle.pkops.specs.Limits.{Bounds}
use Rattle.pkops.specs.declared.Reason.TheVariants as reason
use Rattle.pkread.specs.Rows.{Sight, all_bytes}
use Rattle.pkmachine.specs.Knowledge.{Policy}
use Rattle.pkimport.specs.Import.{asked_shown}
use Rattle.pkcheck.specs.declared.checking.No.{No}
use Rattle.pkcheck.specs.declared.check_loop.Extent.{Extent}
use Rattle.pkcheck.specs.declared.check_loop.RefusedPickle.{RefusedPickle}
use Rattle.pkcheck.specs.declared.loading.Loading.{Loading}
use Rattle.pkload.specs.Costly.{CostsTooMuch}
use Rattle.pkload.specs.Loading.{AcceptedWithBill, IsRefused}
use Rattle.pkload.specs.declared.checking.Costly.{Costly}
use Rattle.pkload.specs.declared.checking.YesWithBill.{YesWithBill}
use Rattle.pkload.specs.declared.tolls.Tolls.{Tolls}

-- an answer of `check_loading`: a yes, a refusal of the check, or a limit
abbrev pub Loaded : Type 0
Loaded = Result (Result YesWithBill RefusedPickle) Costly

module _ (loading : Loading) (policy : Policy) (limits : Bounds) (tolls : Tolls) (extent : Extent)
  where
    -- the answer meets the contract, given the source before the check and after it, and neither a
    -- refused allocation nor a failed read ended the check
    abbrev pub Fits : Sight → Sight → Loaded → Type 0
    Fits old new (Ok (Ok accepted)) =
        AcceptedWithBill loading policy limits tolls old new extent accepted
    Fits old new (Ok (Err refused)) =
        IsRefused loading policy limits tolls old new extent refused
        × (refused.no.reason ≢ reason.Source) × (refused.no.reason ≢ reason.OutOfMemory)
    Fits old new (Err costly) =
        CostsTooMuch loading policy limits tolls old extent costly.pickle costly.at costly.excess

-- both refusals are at this offset, for this reason, with this pair
abbrev pub IsSameNo : No → No → Type 0
IsSameNo a b = (a.at ≡ b.at) × (a.reason ≡ b.reason)
    × (option_map asked_shown a.pair ≡ option_map asked_shown b.pair)

-- both are a yes to as many pickles and bytes with the same bill, both a refusal of the same
-- instruction for the same reason, or both the same limit at the same instruction
abbrev pub SameEnd : Loaded → Loaded → Type 0
SameEnd (Ok (Ok a)) (Ok (Ok b)) = (a.yes.pickles ≡ b.yes.pickles) × (a.yes.taken ≡ b.yes.taken)
    × (a.tally ≡ b.tally) × (a.memory ≡ b.memory)
SameEnd (Ok (Err a)) (Ok (Err b)) = (a.pickle ≡ b.pickle) × IsSameNo a.no b.no
SameEnd (Err a) (Err b) = (a.pickle ≡ b.pickle) × (a.at ≡ b.at) × (a.excess ≡ b.excess)
SameEnd _ _ = ⊥

-- two answers to the same bytes, not too long for a reader, under the same settings have the same
-- end
abbrev pub OneEndFits : Type 0
OneEndFits =
    (loading : Loading) (policy : Policy) (limits : Bounds) (tolls : Tolls) (extent : Extent)
    (bytes : List ℕ) (old new other after : Sight) (a b : Loaded) →
    old.left ≡ Some bytes → other.left ≡ Some bytes → length bytes ≤ all_bytes →
    Fits loading policy limits tolls extent old new a →
    Fits loading policy limits tolls extent other after b →
    SameEnd a b
