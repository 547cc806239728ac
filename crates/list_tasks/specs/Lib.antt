pub mod Blanks
pub mod Counts
pub mod Drafts
pub mod Errors
pub mod Keeping
pub mod Stations
