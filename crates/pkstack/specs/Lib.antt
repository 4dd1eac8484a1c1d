pub mod Shape
pub mod Places
-- why a call is refused
pub mod Faults
-- what need not be trusted
pub mod Private
