pub mod Forces
pub mod Tests
pub mod Trains
pub mod Turns
pub mod Walks
pub mod Dated
