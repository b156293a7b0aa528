pub mod Kinds
pub mod Verdicts
