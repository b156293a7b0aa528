pub mod Counts
pub mod Room
pub mod Decides
pub mod Outright
pub mod Strongest
