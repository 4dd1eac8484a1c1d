-- What an object unfolds to.
pub mod OneValue
pub mod Derivations
pub mod ByContents
pub mod NoFloats
