-- The bytes of one instruction, as they are taken and judged.
pub mod Takes
pub mod Taken
pub mod Behind
pub mod LinesBehind
pub mod Judged
pub mod Starts
pub mod Texts
pub mod Plain
pub mod Skipped
pub mod Front
pub mod FrontLines
pub mod FrequentLines
