pub mod Merges
pub mod Rising
pub mod Steps
pub mod Crossing
