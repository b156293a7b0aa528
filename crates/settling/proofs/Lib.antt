pub mod Queues
pub mod Begins
pub mod Marks
pub mod One
