mod Digits
mod Marks
mod Fronts
mod Texts
pub mod Outside
pub mod Steps
pub mod Parts
pub mod Lines
pub mod Ends
pub mod Playing
pub mod Told
pub mod Feeding
pub mod Commits
pub mod Starting
