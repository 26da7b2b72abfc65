pub mod Shown
pub mod Lacking
pub mod Followed
pub mod Latest
pub mod Opening
