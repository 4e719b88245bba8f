pub mod Open
pub mod Held
pub mod Sealed
pub mod Defining
pub mod Durable
pub mod Kept
