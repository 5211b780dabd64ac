pub mod Mend
pub mod Steps
pub mod Report
pub mod Promise
