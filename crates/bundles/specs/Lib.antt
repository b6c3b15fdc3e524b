pub mod Masks
pub mod Offers
pub mod Rows
