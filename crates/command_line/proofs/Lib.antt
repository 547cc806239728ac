pub mod CommandLemmas
pub mod Numbers
pub mod PartLemmas
pub mod ReadingLemmas
pub mod TaskLemmas
pub mod WorkedLines
