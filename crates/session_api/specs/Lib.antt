pub mod Known
pub mod Revisions
pub mod SessionCall
pub mod Learns
