pub mod Slots
pub mod Bodies
pub mod Views
pub mod Answers
pub mod Sets
pub mod Tearing
pub mod Between
