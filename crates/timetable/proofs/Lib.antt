pub mod Keys
pub mod Valid
pub mod Nexts
