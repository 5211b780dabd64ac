pub mod Editions
pub mod Versions
