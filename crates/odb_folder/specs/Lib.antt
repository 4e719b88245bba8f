pub mod Name
pub mod Counted
pub mod Streams
