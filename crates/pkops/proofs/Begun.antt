-- What begins an instruction, and how long it can be.
pub mod Growth
pub mod Fronts
pub mod Sizes
pub mod Counts
