pub mod Push
pub mod OnImage
