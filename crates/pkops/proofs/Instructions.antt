-- What is said of an instruction that was read.
pub mod Good
pub mod BehindCode
pub mod TextNamed
pub mod OldBytesNamed
