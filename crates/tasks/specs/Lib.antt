pub mod Clocks
pub mod Stores
