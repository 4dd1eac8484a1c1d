-- The lemmas of the program: exports to a line, bytes passed over, and what is reported.
pub mod Exported
pub mod Exports
pub mod Passed
pub mod Reported
