pub mod Steps
pub mod Tiplocs
