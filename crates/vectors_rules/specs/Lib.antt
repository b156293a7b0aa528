pub mod Latest
pub mod Vectors
pub mod Cases
