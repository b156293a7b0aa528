pub mod Grown
pub mod Words
pub mod Stores
pub mod Walks
pub mod Chain
pub mod One
