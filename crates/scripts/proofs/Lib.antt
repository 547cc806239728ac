pub mod Meaning
pub mod Words
pub mod Taking
pub mod Turns
