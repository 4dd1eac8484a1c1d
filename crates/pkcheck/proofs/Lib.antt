-- What is proved of whole checks.
pub mod Wholes
-- worked rows
mod PrintedRows
