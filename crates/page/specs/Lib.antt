pub mod Headings
pub mod Rows
pub mod Pages
pub mod Laws
pub mod Worked
