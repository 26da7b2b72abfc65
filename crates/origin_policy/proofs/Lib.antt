pub mod Decisions
pub mod Places
