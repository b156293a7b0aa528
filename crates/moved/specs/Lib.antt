pub mod Records
pub mod Moved
