pub mod Cuts
pub mod Openings
