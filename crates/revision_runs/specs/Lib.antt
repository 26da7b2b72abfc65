pub mod Keys
pub mod Runs
pub mod TreeRuns
pub mod Changes
