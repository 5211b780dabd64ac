pub mod Keys
pub mod Acts
pub mod Unread
pub mod Reasons
