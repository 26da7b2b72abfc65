pub mod Begins
pub mod Refused
pub mod Waits
