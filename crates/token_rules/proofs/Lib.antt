pub mod Tokens
pub mod Calls
pub mod Acts
pub mod Unread
pub mod Reasons
pub mod Numbers
