pub mod Keys
pub mod Cases
