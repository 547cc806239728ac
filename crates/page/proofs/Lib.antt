pub mod RowBytes
pub mod Blanks
pub mod Shown
pub mod PageRows
pub mod Laid
pub mod Ones
