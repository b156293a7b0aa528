pub mod Agree
pub mod Stretches
pub mod Answers
