pub mod Columns
pub mod Filling
pub mod One
