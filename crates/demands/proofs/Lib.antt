pub mod Declined
pub mod Meets
pub mod Told
pub mod One
pub mod Any
pub mod SomeJudge
pub mod Worthless
pub mod Printed
