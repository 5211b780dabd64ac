pub mod Left
pub mod Words
