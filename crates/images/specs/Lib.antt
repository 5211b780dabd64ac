pub mod Image
pub mod Realm
