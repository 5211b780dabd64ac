pub mod Acts
pub mod Step
pub mod Run
pub mod Kept
pub mod Changes
