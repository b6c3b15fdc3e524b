pub mod Kept
pub mod Listing
pub mod Shorter
pub mod Steps
