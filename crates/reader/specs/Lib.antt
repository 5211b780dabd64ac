pub mod Answer
pub mod Reading
pub mod Fast
pub mod Views
pub mod Gaps
pub mod Withdrawn
pub mod Acts
