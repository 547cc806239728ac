pub mod Orders
pub mod Maps
pub mod Places
