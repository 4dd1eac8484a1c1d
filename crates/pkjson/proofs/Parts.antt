-- From the parts of an object to the whole.
pub mod NodesHeld
pub mod Weights
pub mod WeightAnswers
pub mod Built
pub mod Sent
pub mod Pieces
pub mod SomeFit
