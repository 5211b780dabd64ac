pub mod Kept
pub mod Blank
pub mod Pages
pub mod Parts
pub mod Theorems
pub mod Sample
pub mod Told
