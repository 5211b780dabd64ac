pub mod Key
pub mod Acts
