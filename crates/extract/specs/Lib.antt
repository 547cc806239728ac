pub mod Stages
pub mod Progress
pub mod Judging
pub mod Dated
pub mod Standings
