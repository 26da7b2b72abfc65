pub mod Paths
pub mod Queried
pub mod Replied
