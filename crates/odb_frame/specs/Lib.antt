pub mod Frames
pub mod Transfers
