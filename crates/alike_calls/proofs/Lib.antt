pub mod Alike
pub mod Filled
pub mod Decided
pub mod Claimed
pub mod Serials
pub mod Lists
pub mod Vectors
