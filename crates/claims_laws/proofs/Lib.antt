pub mod Members
pub mod Backwards
pub mod Claims
pub mod Yes
pub mod Levels
pub mod Judged
pub mod Told
