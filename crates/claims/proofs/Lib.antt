pub mod Seats
pub mod TurnedFirsts
pub mod Firsts
