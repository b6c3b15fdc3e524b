pub mod Desk
pub mod Wishes
