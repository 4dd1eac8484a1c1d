-- The slim form, instruction by instruction.
pub mod NewForms
pub mod PlainInstructions
pub mod Unchanged
pub mod Fates
pub mod Written
pub mod Steps
pub mod Whole
pub mod WritesRead
pub mod Allowed
pub mod WorkedRows
