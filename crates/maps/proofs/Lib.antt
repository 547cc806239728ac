pub mod Maps
pub mod Sorted
pub mod Heaped
pub mod Lowest
pub mod Lengths
