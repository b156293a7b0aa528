pub mod Blocks
pub mod One
