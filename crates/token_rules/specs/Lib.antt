pub mod Token
pub mod Calls
pub mod Acts
