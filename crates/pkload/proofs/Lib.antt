-- The lemmas of the bill: what a step costs, what whole runs cost, and what an answer says of them.
-- runs and their bills
pub mod Accounts
pub mod Readings
pub mod Weights
pub mod Grown
pub mod Exactly
pub mod Lighter
pub mod AtLeast
pub mod Steps
pub mod Whole
pub mod FollowedBill
pub mod Above
pub mod Tolds
pub mod Loading
pub mod Staying
pub mod Exceeding
pub mod Costs
pub mod Ends
pub mod Billable
pub mod Refusals
pub mod Settled
pub mod SameBytes
pub mod SameRows
pub mod OneEnd
-- a check with a ceiling
pub mod Few
pub mod Linear
pub mod Flat
pub mod Under
pub mod Stock
pub mod Tops
pub mod Together
pub mod Below
pub mod Estimated
pub mod Declined
-- the machine
pub mod Errs
pub mod Slots
pub mod Losses
pub mod Metered
pub mod Lights
pub mod Counted
pub mod ShortTexts
-- worked rows
mod Rows
