-- Contracts between the private functions that take bytes. They need not be trusted: the contracts
-- of `Reader` follow from them.
pub mod Progress
pub mod Reads
pub mod Arms
pub mod SkippedBytes
pub mod OpenReader
pub mod Judgement
