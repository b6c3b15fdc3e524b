pub mod Checks
pub mod Fine
pub mod Places
