pub mod Call
pub mod Whole
