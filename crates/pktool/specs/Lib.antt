pub mod Blocks
pub mod Optimized
pub mod Json
pub mod Answers
pub mod Ends
