pub mod Pull
pub mod Sign
pub mod OnImage
