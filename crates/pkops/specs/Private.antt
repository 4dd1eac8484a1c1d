-- Internal definitions, cited by private functions alone; they need not be trusted. The lemmas in
-- `proofs/` relate them to the public definitions.
pub mod EscapeSteps
pub mod Places
pub mod FirstFaults
