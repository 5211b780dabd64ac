pub mod Image
pub mod Sides
pub mod Steps
pub mod Waits
pub mod OnImage
