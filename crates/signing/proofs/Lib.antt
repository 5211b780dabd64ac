pub mod Buffers
pub mod Signings
pub mod Acts
pub mod OnImages
pub mod Unread
pub mod Reasons
