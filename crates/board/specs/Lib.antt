pub mod Lines
pub mod Boards
pub mod Filling
pub mod Turning
pub mod Strikes
pub mod LineOrders
