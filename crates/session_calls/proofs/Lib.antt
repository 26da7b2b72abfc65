pub mod Crossing
pub mod Seen
pub mod Sessions
pub mod Shown
