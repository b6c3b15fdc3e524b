pub mod Codes
pub mod Filling
