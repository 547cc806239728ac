pub mod Ledgers
pub mod Installations
pub mod Runs
pub mod Pairs
pub mod WholeRuns
