pub mod Changes
pub mod Edited
pub mod Halves
pub mod Laws
pub mod Shifts
pub mod Sorts
pub mod Whole
