pub mod Alone
pub mod Borrowed
pub mod Decided
pub mod Ended
pub mod FirstLines
pub mod Going
pub mod Parts
pub mod Woven
