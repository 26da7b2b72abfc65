mod Values
mod Parts
mod Segments
mod Cuts
