pub mod Sets
pub mod Ordering
