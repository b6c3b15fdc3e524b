pub mod Finds
pub mod Lots
pub mod Parts
pub mod Places
pub mod Readers
pub mod Values
