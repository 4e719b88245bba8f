pub mod Splits
pub mod Stands
pub mod Intended
pub mod Nexts
pub mod Laid
pub mod Kept
pub mod Walks
pub mod Above
