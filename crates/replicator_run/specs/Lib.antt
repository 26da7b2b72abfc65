pub mod Counted
pub mod CheckpointId
pub mod Reopened
pub mod Report
pub mod Large
pub mod Skipped
pub mod Asked
