pub mod Exports
pub mod Sequence
