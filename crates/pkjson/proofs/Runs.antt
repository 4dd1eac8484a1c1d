-- The plain run of an accepted pickle, and its answer.
pub mod Fronts
pub mod PlainStep
pub mod PlainRun
pub mod RunToStop
pub mod NextInstruction
pub mod Answered
pub mod WorkedPickles
