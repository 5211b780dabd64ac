pub mod Text
pub mod Laid
pub mod Steps
