pub mod ListsText
pub mod TextCases
pub mod Told
