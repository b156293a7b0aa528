pub mod Calls
pub mod Looking
