pub mod Timetables
pub mod Laws
