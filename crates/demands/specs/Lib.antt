pub mod Declined
pub mod Demands
pub mod Judges
pub mod Printed
