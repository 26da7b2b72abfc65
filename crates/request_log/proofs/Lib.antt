pub mod OneLine
pub mod Values
