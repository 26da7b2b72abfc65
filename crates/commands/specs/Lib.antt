pub mod Command
pub mod Config
pub mod Merge
pub mod Reply
pub mod ShortList
