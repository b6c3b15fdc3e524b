pub mod Tables
pub mod Welfare
pub mod Choosing
pub mod Paying
pub mod Sharing
