pub mod Base
pub mod Fronts
pub mod Pieces
