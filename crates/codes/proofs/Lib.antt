pub mod Gates
pub mod Reasons
pub mod Numbers
