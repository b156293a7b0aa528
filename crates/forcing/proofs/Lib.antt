pub mod Prepared
pub mod Counting
pub mod Forced
pub mod One
