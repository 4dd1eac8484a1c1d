-- The test of each kind of contents, and its rule.
pub mod Numerals
pub mod Floats
pub mod EachByte
pub mod Names
pub mod Loop
pub mod OldStringsSpelled
pub mod OldStrings
pub mod FormsRead
pub mod EscapesSpelled
pub mod EscapesRead
pub mod EscapesPlain
pub mod Decided
