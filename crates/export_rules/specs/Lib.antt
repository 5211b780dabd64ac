pub mod Exports
pub mod Refusals
pub mod ShownBanks
pub mod Unread
pub mod Codes
