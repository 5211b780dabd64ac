pub mod Looking
pub mod Trailing
