pub mod Entry
pub mod Array
pub mod Steps
pub mod Fast
pub mod Facts
