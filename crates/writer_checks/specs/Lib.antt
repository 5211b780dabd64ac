pub mod Description
pub mod Fast
pub mod Steps
