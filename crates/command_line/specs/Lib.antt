pub mod Commands
pub mod Refusals
pub mod Requests
pub mod Worked
