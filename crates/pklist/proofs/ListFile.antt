-- The list file.
pub mod ListFaults
pub mod Items
pub mod Index
pub mod ListBound
mod ListRows
