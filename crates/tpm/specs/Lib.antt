pub mod ReturnCodes
pub mod Comm
pub mod Claims
pub mod Sequence
