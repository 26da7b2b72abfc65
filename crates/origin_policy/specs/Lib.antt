pub mod Allowed
pub mod Names
pub mod Verdict
pub mod Answers
