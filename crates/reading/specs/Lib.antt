pub mod Calls
pub mod Lines
pub mod Readers
pub mod Reads
pub mod Runs
