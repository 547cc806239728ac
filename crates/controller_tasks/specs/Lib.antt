pub mod Handing
pub mod Taking
pub mod Following
