pub mod Counts
pub mod Kinds
pub mod Axiom
pub mod Accepted
