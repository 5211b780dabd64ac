pub mod Granules
pub mod Steps
pub mod Acts
pub mod Lists
pub mod Changes
pub mod Books
