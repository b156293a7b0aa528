pub mod First
pub mod Cases
pub mod Overlaps
