pub mod Bids
pub mod House
pub mod Promise
pub mod Laws
pub mod Faster
pub mod Answers
pub mod Worked
