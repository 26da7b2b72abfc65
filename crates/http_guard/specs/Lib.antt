pub mod Extended
pub mod Weaving
pub mod Passage
pub mod Guarded
