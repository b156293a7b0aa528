pub mod Words
pub mod Tables
pub mod Selves
pub mod Smallest
pub mod Largest
pub mod Alone
pub mod Passes
pub mod One
