pub mod Commands
pub mod Fronts
pub mod Line
pub mod Lines
pub mod Replies
