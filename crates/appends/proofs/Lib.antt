pub mod Below
pub mod Answering
pub mod Calling
