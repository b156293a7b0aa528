pub mod Turns
pub mod Trace
