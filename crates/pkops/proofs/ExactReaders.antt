-- The readers of arguments find what is spelled, and nothing else.
pub mod Exact
pub mod Fields
pub mod LineEnds
pub mod Places
pub mod Lines
pub mod LinePairs
pub mod Payloads
pub mod WrappedReaders
pub mod Arguments
pub mod Scans
