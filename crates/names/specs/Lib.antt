pub mod Halving
pub mod Odd
