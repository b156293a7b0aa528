pub mod Listings
pub mod Counts
pub mod Findings
pub mod Sifted
pub mod Pairs
pub mod Levels
