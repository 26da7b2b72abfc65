pub mod Known
pub mod Calls
pub mod Ends
pub mod Faults
pub mod Compactions
pub mod Answered
