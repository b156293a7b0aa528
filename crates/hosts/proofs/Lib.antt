pub mod Twice
pub mod Again
