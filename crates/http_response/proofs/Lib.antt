pub mod Heads
pub mod PiecedTexts
pub mod Openings
