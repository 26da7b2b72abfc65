pub mod Ids
pub mod Text
