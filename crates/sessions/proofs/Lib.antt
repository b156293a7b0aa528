pub mod Grown
pub mod Kept
pub mod Walks
pub mod Taken
pub mod One
