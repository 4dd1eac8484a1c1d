-- One call of a reader, or of a walk over a slice.
pub mod Next
pub mod NextHead
pub mod Again
pub mod WalkNext
pub mod AtHand
