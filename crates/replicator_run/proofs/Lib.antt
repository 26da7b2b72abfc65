pub mod Given
pub mod Reports
pub mod BulkLengths
pub mod Again
pub mod Changed
pub mod Skips
