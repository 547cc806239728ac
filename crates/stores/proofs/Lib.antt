pub mod Whole
pub mod Slots
