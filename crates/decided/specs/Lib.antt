pub mod Decides
pub mod Strongest
pub mod Answered
