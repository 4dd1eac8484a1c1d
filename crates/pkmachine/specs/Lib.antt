-- what pickles do, and what the machine knows
pub mod Effects
pub mod Runs
pub mod Knowledge
pub mod Covers
pub mod Faults
pub mod WholeRuns
pub mod RowRuns
-- the machine and its calls
pub mod Policies
pub mod View
pub mod Texts
pub mod Memory
pub mod Following
pub mod FollowedKnowledge
pub mod Step
-- laws of these definitions
pub mod AlikeLaws
pub mod Witnesses
pub mod StepLaws
-- what need not be trusted
pub mod Private
