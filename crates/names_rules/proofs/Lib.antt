pub mod Walking
pub mod Offsets
pub mod Loops
pub mod Places
pub mod Kept
pub mod NameCases
