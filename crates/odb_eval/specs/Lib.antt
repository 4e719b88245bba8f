pub mod Bound
pub mod Joint
pub mod Above
