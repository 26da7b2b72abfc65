pub mod Response
pub mod Problem
pub mod Told
pub mod Texts
pub mod Feed
pub mod Pieces
pub mod Measured
pub mod Parts
