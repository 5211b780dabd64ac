pub mod Collects
pub mod E13
pub mod Pieces
pub mod Samples
pub mod Joined
pub mod Reasons
