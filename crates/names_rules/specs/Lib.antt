pub mod Names
pub mod NameCases
