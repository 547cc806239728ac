pub mod Files
pub mod Rows
