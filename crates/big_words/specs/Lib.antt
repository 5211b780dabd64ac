pub mod Big
pub mod Fast
