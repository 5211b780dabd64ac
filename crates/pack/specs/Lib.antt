pub mod Pack
pub mod Packer
pub mod Steps
