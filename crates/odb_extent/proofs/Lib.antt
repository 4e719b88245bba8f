pub mod Values
pub mod Blank
pub mod Putting
pub mod Growing
pub mod Formatting
