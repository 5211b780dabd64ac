pub mod Acts
pub mod Signing
pub mod OnImage
pub mod Steps
