pub mod Links
pub mod Reach
pub mod Seen
