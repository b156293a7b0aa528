pub mod Codes
pub mod Grades
pub mod Spots
