pub mod Running
pub mod Walking
pub mod Laws
pub mod Dated
pub mod Worked
