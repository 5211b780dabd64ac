pub mod Lookups
pub mod Consoles
