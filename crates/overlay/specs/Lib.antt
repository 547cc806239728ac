pub mod Overlays
pub mod Permitted
pub mod Settling
pub mod Leasts
pub mod Laws
pub mod Maps
