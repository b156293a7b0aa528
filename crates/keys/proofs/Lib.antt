pub mod Keys
pub mod One
