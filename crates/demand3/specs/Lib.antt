pub mod Forced
pub mod Writes
pub mod Lists
pub mod Rejected
