pub mod Given
pub mod Known
pub mod Sessions
pub mod One
