pub mod Acts
pub mod Laid
pub mod Pulls
pub mod Signs
pub mod OnImages
pub mod Reasons
