-- The runs of a pickle, and those of its forms.
pub mod AlikeSteps
pub mod SlimRuns
pub mod Origins
pub mod Faultless
pub mod Heard
pub mod FormAccepted
