pub mod Heard
pub mod RoundTrips
