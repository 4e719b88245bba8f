mod Beside
pub mod Opens
mod Places
mod Front
mod Putting
mod Fresh
