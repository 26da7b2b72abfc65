pub mod CowMap
pub mod Entries
pub mod Height
pub mod LookUp
pub mod NodeMaker
pub mod Path
pub mod Root
pub mod Tree
