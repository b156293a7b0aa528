pub mod Fronts
pub mod Texts
pub mod Kept
pub mod Printed
