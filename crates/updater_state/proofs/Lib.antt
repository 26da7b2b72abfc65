pub mod DraftLists
pub mod Published
pub mod Slots
pub mod States
pub mod Worlds
pub mod Crossing
pub mod Swaps
