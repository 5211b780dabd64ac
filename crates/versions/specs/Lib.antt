pub mod Version
pub mod Edition
