-- What is proved of the stack, in terms of the entries of its store, and of the moves.
pub mod Limited
pub mod Shown
pub mod Topmost
pub mod Bars
pub mod Places
pub mod Few
pub mod Placed
pub mod Settled
pub mod Moved
