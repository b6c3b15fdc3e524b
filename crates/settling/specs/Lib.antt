pub mod Settled
pub mod Packs
pub mod Covers
pub mod Groups
pub mod Alone
pub mod Apart
