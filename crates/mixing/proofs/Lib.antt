pub mod Sorts
pub mod Firsts
pub mod Walks
pub mod Growing
pub mod Laws
