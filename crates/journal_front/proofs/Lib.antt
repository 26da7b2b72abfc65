pub mod Crossing
pub mod Ending
pub mod Keeping
pub mod Progress
pub mod Served
