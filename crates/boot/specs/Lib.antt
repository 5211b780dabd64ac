pub mod Boot
pub mod Boots
pub mod Acts
pub mod Plain
pub mod Reasons
