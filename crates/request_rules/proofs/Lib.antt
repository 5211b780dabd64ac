pub mod Acts
pub mod Pushes
pub mod OnImages
