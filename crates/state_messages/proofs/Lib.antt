pub mod Heads
pub mod Readings
pub mod Writes
pub mod ReadBack
pub mod Reasons
