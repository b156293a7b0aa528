pub mod Shelf
pub mod Printed
