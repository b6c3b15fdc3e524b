pub mod Sums
pub mod Sixteen
pub mod Packs
pub mod Keeping
pub mod Joining
pub mod Alones
pub mod Members
pub mod Aparts
pub mod Lones
pub mod Turns
mod Made
pub mod Gathered
