pub mod Cuts
pub mod Followed
pub mod Forks
pub mod Given
pub mod Readable
pub mod Texts
pub mod Verdicts
