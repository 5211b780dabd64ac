pub mod Inverse
pub mod Answers
pub mod Told
pub mod Realm
