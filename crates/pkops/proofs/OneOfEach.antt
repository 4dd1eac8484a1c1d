-- One code of each opcode, one spelling of each instruction, one answer of each scan.
pub mod OneCode
pub mod OneSpelling
pub mod OneAnswer
