pub mod Framing
pub mod Calls
