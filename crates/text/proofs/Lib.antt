pub mod Lengths
pub mod FieldRoom
pub mod Room
pub mod Example
