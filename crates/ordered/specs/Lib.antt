pub mod Bounds
pub mod Tables
pub mod Fits
pub mod Edits
pub mod Chains
