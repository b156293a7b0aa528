pub mod Texts
pub mod Without
pub mod Cases
