pub mod Window
pub mod Validation
