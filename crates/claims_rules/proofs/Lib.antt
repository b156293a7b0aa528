pub mod Claims
pub mod Members
pub mod Few
pub mod Words
pub mod Numbers
pub mod Cases
pub mod WordCases
