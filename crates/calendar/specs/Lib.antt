pub mod Calendar
pub mod Laws
