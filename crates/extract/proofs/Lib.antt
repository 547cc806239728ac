pub mod Lines
pub mod Taken
pub mod Ranges
pub mod Dated
