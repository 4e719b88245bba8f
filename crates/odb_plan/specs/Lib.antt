pub mod Kinds
pub mod Sides
pub mod Bound
pub mod Tests
pub mod Earlier
