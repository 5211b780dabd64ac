pub mod Lookup
pub mod Fast
pub mod Consoles
