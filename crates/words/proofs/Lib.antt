pub mod Tests
pub mod Read
pub mod Store
pub mod Lists
pub mod Bytes
