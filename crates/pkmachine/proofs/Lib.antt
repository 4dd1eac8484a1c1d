-- What is proved of the symbolic machine and of the runs that it covers.
pub mod Coverage
pub mod StepParts
-- the fields of the machine: the stack, the memo, the texts, the imports
pub mod ResolvedEntries
pub mod FollowedItems
mod FollowedExamples
pub mod PushedTexts
pub mod AskedOperands
pub mod Numbered
pub mod Places
pub mod OpenMarks
