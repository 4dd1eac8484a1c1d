-- What the replay keeps: the stack, the memo, the arena.
pub mod OperandsTaken
pub mod EventsMirrored
