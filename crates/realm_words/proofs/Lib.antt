pub mod Agreeing
pub mod Bits
pub mod Counting
pub mod Codes
pub mod Laws
pub mod Packing
pub mod Next
pub mod Facts
