pub mod Telling
pub mod Printed
pub mod Parts
pub mod Cases
