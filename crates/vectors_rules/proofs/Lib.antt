pub mod Greatest
pub mod Latest
pub mod Own
pub mod Cycles
pub mod History
