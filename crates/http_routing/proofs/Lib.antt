pub mod Segments
pub mod Values
pub mod Pairs
pub mod Walk
pub mod Table
pub mod EmptySegments
