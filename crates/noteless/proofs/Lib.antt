pub mod Counted
pub mod Texts
pub mod Ahead
pub mod Copied
pub mod Without
pub mod ButFor
pub mod Back
pub mod Again
