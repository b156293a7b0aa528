pub mod Sets
pub mod Smallest
pub mod Steps
pub mod One
