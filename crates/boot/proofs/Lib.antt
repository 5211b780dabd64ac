pub mod Booting
pub mod Closing
pub mod Acts
pub mod Plain
pub mod Reasons
