pub mod Calls
pub mod Runs
pub mod Pairs
pub mod WholeRuns
pub mod Laws
