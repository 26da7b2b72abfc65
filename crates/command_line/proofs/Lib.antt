pub mod Parsed
pub mod Given
pub mod Runs
pub mod Built
pub mod Lists
pub mod PlaceTexts
pub mod Browsing
pub mod Positions
