pub mod Given
pub mod Round
pub mod Demand
pub mod Checks
pub mod Makes
pub mod Sample
pub mod Laid
