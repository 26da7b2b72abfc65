pub mod Counts
pub mod Ends
pub mod Stream
pub mod Lending
pub mod Writes
pub mod Script
pub mod Streams
