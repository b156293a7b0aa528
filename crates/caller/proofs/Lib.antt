pub mod Text
pub mod Twice
