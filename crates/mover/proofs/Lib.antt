pub mod Whole
pub mod Call
