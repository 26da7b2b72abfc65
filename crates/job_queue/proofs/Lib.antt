pub mod Moves
pub mod Counted
pub mod Crossing
