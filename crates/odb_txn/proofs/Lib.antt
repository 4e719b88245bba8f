pub mod Ranges
pub mod Keeping
pub mod Alike
pub mod Told
pub mod Stands
pub mod Nets
pub mod Counted
