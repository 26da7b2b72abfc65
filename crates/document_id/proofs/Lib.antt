pub mod Crossing
pub mod SetLists
pub mod Ascending
pub mod Steps
