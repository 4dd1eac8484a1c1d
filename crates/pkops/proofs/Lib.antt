-- The lemmas of one instruction: exact readers, beginnings, what is unique, and rules of contents.
pub mod ExactReaders
pub mod Begun
pub mod OneOfEach
pub mod ContentsRules
pub mod Instructions
pub mod WorkedRows
