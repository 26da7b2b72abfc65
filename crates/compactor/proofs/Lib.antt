pub mod FirstTouched
pub mod Sliced
pub mod Copies
