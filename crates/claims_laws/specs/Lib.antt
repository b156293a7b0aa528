pub mod Claims
pub mod Told
