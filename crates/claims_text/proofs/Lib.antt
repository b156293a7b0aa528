pub mod Replies
pub mod Words
pub mod Kept
