pub mod Messages
pub mod Reasons
pub mod Numbers
