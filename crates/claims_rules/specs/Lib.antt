pub mod Claims
pub mod Lines
pub mod Numbers
pub mod Words
pub mod WordCases
pub mod Cases
