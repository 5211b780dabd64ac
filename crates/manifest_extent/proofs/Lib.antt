pub mod Kept
pub mod Least
