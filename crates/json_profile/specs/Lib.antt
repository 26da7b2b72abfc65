pub mod Joined
pub mod Objects
pub mod Profiled
pub mod Texts
