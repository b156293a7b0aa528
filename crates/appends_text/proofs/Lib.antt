pub mod Lengths
pub mod Told
pub mod Kept
