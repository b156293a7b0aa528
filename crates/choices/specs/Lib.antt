pub mod Choices
pub mod Accepting
pub mod Cases
pub mod Outcomes
