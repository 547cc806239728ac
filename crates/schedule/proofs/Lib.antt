pub mod Steps
pub mod Calls
