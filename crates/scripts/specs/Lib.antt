pub mod Texts
pub mod Steps
pub mod Lines
pub mod Histories
