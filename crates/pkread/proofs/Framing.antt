-- The frame rules, by the number of bytes still open.
pub mod Counted
pub mod SoFar
