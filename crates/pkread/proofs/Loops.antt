-- What a loop over calls knows.
pub mod Run
pub mod Walked
pub mod OneSequence
mod WorkedRows
