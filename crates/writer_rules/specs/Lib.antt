pub mod Write
pub mod Wrote
pub mod Unrefused
pub mod Demand
pub mod Laid
