pub mod Numbers
pub mod Choices
pub mod Matches
pub mod Simple
mod Worked
pub mod Only
