-- The lemmas for C: pieces written to a buffer, refusals without a pair, worked verdicts.
pub mod Pieces
pub mod Unpaired
pub mod Examples
