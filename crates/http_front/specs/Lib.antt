pub mod Opening
pub mod Once
pub mod Dumping
pub mod Server
