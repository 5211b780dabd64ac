pub mod Lay
pub mod Numbers
pub mod Parts
