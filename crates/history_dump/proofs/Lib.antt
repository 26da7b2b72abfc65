pub mod Begun
pub mod Snocs
pub mod Taken
