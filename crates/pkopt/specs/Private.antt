-- Definitions that only private functions cite. They need not be trusted: the contract of
-- `optimize` follows from them.
pub mod Entries
pub mod Sourced
pub mod Memories
pub mod Places
pub mod Packing
pub mod Passes
pub mod Fates
pub mod Sinks
pub mod Produced
pub mod Outputs
pub mod FrameBytes
pub mod TracedCheck
pub mod HeardParts
