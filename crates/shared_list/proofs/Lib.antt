pub mod Crossing
pub mod Dues
pub mod Levels
pub mod Paths
pub mod Runs
