pub mod ListFile
pub mod Allow
pub mod Pairs
-- a law of these definitions
pub mod Bounded
-- what need not be trusted
pub mod Private
