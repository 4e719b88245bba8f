pub mod Script
pub mod Steps
pub mod Made
pub mod Summary
