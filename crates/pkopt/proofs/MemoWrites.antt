-- The memo, and the new numbers of its writes that stay.
pub mod Recalled
pub mod Followed
pub mod NewNumbers
pub mod WritesKept
pub mod Parts
pub mod EarlyReads
