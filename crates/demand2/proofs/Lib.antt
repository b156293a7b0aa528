pub mod Origin
pub mod Counts
pub mod Kind
pub mod Pairs
pub mod Axiom
pub mod Accepted
pub mod Traces
