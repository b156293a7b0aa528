pub mod Shelf
pub mod Judged
pub mod Printed
