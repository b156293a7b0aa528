pub mod Lines
pub mod Longest
pub mod Neighbours
pub mod Within
pub mod ListCases
