pub mod Spelling
pub mod Calls
pub mod SixBytes
pub mod Writing
pub mod Heard
