pub mod Several
pub mod Shorter
pub mod Steps
