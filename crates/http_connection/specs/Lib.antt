pub mod Turn
pub mod Served
pub mod Kept
