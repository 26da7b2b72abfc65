pub mod Answer
pub mod Query
