pub mod Rows
pub mod Places
pub mod Watching
pub mod Turning
pub mod Going
pub mod Answers
pub mod One
