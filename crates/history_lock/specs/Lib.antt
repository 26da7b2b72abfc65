pub mod Names
pub mod Ending
pub mod Successors
pub mod Refusals
