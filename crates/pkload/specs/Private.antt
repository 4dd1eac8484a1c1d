-- Internal definitions, which need not be trusted.
pub mod Packed
pub mod Shown
pub mod Gathered
pub mod Lost
pub mod Billing
pub mod Told
pub mod Meter
pub mod Settled
pub mod Ceiling
