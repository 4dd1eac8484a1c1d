pub mod Verdict
pub mod Costs
pub mod Listing
pub mod Imports
pub mod Private
