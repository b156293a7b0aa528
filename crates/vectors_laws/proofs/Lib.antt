pub mod Vectors
pub mod Same
pub mod Merged
