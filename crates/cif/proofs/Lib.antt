pub mod Steps
pub mod Results
pub mod Tables
pub mod Held
pub mod Dated
