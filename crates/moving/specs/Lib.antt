pub mod Moving
pub mod Tally
pub mod Renumbering
pub mod Cases
