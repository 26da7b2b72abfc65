pub mod Prefixes
pub mod Growing
pub mod Publishing
pub mod OneStore
pub mod Knowing
pub mod Crossing
