pub mod Logs
pub mod Crossing
pub mod Numbers
