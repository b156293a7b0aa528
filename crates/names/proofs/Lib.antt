pub mod Fields
pub mod Files
pub mod Halving
pub mod Odd
pub mod Parts
