pub mod Events
pub mod Views
pub mod States
pub mod Runs
