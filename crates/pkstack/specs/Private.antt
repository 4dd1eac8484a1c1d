-- Internal definitions, which need not be trusted.
pub mod Slots
