-- Runs, and what the checker knows about them.
pub mod CoversBy
pub mod AcceptedSteps
pub mod RefusedSteps
pub mod OneTextStates
pub mod PermittedImports
pub mod StepImports
pub mod ShownFaults
pub mod Words
pub mod FaultsReached
pub mod FirstFault
pub mod LawsOfSteps
