pub mod Answers
pub mod Changes
pub mod Pages
pub mod Rows
pub mod Texts
pub mod Words
