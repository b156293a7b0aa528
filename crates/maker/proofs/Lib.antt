pub mod Following
pub mod Records
pub mod Call
