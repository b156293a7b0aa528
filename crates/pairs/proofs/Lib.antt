pub mod Marking
pub mod Walk
pub mod Pairs
pub mod Priors
pub mod One
