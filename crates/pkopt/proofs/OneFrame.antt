-- The frame around the slim form.
pub mod Fronts
pub mod FramedForm
pub mod FramedBytes
pub mod OneSequence
