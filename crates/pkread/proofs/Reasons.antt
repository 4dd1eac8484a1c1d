-- Why bytes are refused, and that no two reasons hold.
pub mod Objections
pub mod OneRow
