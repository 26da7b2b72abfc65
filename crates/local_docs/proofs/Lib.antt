pub mod Removal
pub mod Crossing
pub mod Reading
