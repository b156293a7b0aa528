pub mod Chain
pub mod Fitting
pub mod Entries
pub mod Bytes
pub mod One
