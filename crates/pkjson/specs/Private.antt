-- Definitions that only private functions cite. They need not be trusted: the contract of `export`
-- follows from them.
pub mod Arena
pub mod PlainActions
pub mod Mirrors
pub mod Fronts
pub mod Kinds
pub mod Seen
pub mod Held
pub mod Halts
pub mod Capped
pub mod Nodes
pub mod Ranks
pub mod Weighs
pub mod Fits
pub mod Sends
pub mod Parts
pub mod Pieces
pub mod Settled
pub mod Replayed
pub mod Result
