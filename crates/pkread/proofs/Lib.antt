-- The lemmas of reading: frames, reasons, bytes taken, calls of a reader, loops over calls.
pub mod Framing
pub mod Reasons
pub mod Bytes
pub mod Calls
pub mod Loops
