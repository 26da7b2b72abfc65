pub mod Looking
pub mod Settling
pub mod Receipts
pub mod LastTold
pub mod Crossing
