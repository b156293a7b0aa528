pub mod Taken
pub mod One
