pub mod Bytes
pub mod Letters
pub mod Forms
pub mod Ends
pub mod Laws
