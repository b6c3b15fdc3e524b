pub mod Sets
pub mod Picks
pub mod RowLists
