-- Contracts of the private parts of the machine. They need not be trusted: the lemmas in `proofs/`
-- derive the public definitions from them.
pub mod Packed
pub mod HeldCells
pub mod Slots
pub mod Items
pub mod Asking
pub mod StepErrors
pub mod Spelled
pub mod Actions
pub mod NewTexts
pub mod NamelessOperations
pub mod Steps
pub mod NamedOperations
