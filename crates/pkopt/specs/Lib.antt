pub mod Writers
pub mod Slim
pub mod OneFrame
pub mod RunsAlike
pub mod Faultless
pub mod Limit
pub mod Answer
pub mod Output
pub mod Laws
-- what a check sees of bytes in memory
pub use Rattle.pkread.specs.Rows
pub mod Private
