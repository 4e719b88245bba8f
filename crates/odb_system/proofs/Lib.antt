mod Owned
mod Items
mod Late
mod Holding
mod Carried
mod Simulates
mod Behind
mod Prepared
mod Running
pub mod Keeping
mod Stepping
mod Turns
