pub mod Order
pub mod Lists
pub mod Forced
pub mod Call
