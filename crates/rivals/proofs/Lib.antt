pub mod Seen
pub mod Hits
pub mod Sifting
pub mod Rivals
