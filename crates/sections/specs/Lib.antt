pub mod Page
pub mod Section
pub mod Steps
pub mod Facts
