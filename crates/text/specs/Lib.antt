pub mod Lines
pub mod Digits
pub mod Answer
pub mod Cases
