pub mod Sections
pub mod Spans
pub mod Room
pub mod Core
pub mod Facts
