-- The parts of a step of the machine.
pub mod Past
pub mod Judged
pub mod GoesOn
pub mod Extensions
pub mod Settings
pub mod CoveredStep
pub mod SkippedPayloads
pub mod Operations
pub mod PushedObjects
pub mod FollowedKnowledge
pub mod Replaced
pub mod Longest
