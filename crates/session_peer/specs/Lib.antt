pub mod Shown
pub mod Checkpoints
pub mod Commands
pub mod End
pub mod Goes
