pub mod Filling
pub mod Steps
pub mod Writing
pub mod Listing
pub mod Rewriting
pub mod Forms
pub mod Cases
