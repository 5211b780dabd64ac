pub mod Collect
pub mod Blobs
pub mod Reasons
