pub mod Keys
pub mod Records
pub mod Schedules
pub mod Transactions
pub mod Ended
pub mod Building
pub mod Orders
