-- The lemmas of the containers: entries in parts, and their number.
pub mod Entries
pub mod Stored
