pub mod Orders
pub mod Piles
pub mod Whole
