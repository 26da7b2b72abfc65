pub mod BaseInProfile
pub mod BaseLists
pub mod BaseTexts
pub mod ListsLeft
pub mod Mapped
pub mod Scans
