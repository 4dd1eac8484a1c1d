-- The one lemma that the rows need, of their own sources.
pub mod Passed
