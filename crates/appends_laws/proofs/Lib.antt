pub mod ListFits
pub mod ListPairs
pub mod ListFindings
pub mod ListBytes
pub mod Singles
pub mod NoLists
pub mod Swapped
