pub mod Rests
pub mod Adds
pub mod Boards
pub mod Trains
pub mod Strikes
