pub mod Answers
pub mod Bytes
pub mod Calls
pub mod Kinds
pub mod Meaning
pub mod Offers
pub mod Refusals
pub mod Sizes
