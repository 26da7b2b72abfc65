pub mod Filters
pub mod Heights
pub mod Paths
pub mod Runs
pub mod Sides
pub mod Turns
pub mod Crossing
