pub mod Settling
