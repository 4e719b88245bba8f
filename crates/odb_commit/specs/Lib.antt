pub mod Parts
pub mod Sealing
pub mod Standing
pub mod Turned
