pub mod Image
pub mod Reading
pub mod Reader
pub mod Written
