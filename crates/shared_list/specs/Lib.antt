pub mod Path
pub mod SharedList
pub mod Spine
pub mod Tree
