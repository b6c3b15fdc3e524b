pub mod AllWays
