-- Contracts of the private parts of a check. They need not be trusted: the lemmas in `proofs/`
-- derive the public definitions from them.
pub mod Judgement
pub mod WholeReports
pub mod Lent
pub mod NextPickle
pub mod FirstPickle
pub mod Turns
