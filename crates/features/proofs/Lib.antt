pub mod Feature
pub mod Acts
pub mod Reasons
