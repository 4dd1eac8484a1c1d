-- what plain data is, and what it means
pub mod Integers
pub mod Unfolds
pub mod Derived
pub mod Contents
pub mod Plain
pub mod Export
pub mod Laws
-- internal definitions, which need not be trusted
-- what a check sees of bytes in memory
pub use Rattle.pkread.specs.Rows
pub mod Private
