-- The lemmas of the optimizer: memo writes, the slim form, its runs, its frame, and its pieces.
pub mod MemoWrites
pub mod SlimForm
pub mod BothRuns
pub mod OneFrame
pub mod Optimized
pub mod Pieces
