-- The lemmas of printed lines and positions, and worked rows of listings and verdicts.
pub mod Lines
pub mod Positions
-- worked rows
mod ListingRows
mod VerdictRows
