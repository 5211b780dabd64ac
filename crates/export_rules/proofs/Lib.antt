pub mod Left
pub mod Refusals
pub mod Shown
pub mod SetUp
pub mod Unread
pub mod Codes
