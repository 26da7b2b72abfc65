pub mod Crossing
pub mod Ranges
pub mod Fronts
pub mod Going
