pub mod Queues
pub mod Asking
pub mod Orders
pub mod Calls
pub mod Kept
pub mod Measured
pub mod Inputs
mod BulkTexts
mod DocIdsTexts
mod Under
mod Heads
