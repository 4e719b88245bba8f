pub mod Gating
pub mod Imaging
pub mod Filling
pub mod Finding
pub mod Places
pub mod Listing
