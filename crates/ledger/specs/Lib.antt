pub mod Layout
pub mod Words
pub mod Houses
pub mod Opening
pub mod Laws
pub mod Finding
