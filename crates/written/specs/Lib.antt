pub mod Steps
pub mod Says
pub mod Declined
pub mod Fills
pub mod Writes
pub mod Lists
pub mod Rewrites
pub mod Given
