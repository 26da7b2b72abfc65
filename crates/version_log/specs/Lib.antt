pub mod Histories
pub mod Stores
pub mod Rules
pub mod Names
