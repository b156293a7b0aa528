pub mod Writes
pub mod Findings
pub mod Forced
pub mod Pairs
pub mod Bytes
pub mod Traces
