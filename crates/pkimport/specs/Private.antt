-- What need not be trusted: how a table is stored, and that the comparison is right.
pub mod Joined
pub mod Entries
pub mod SameImports
