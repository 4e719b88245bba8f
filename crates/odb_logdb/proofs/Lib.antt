pub mod Opened
pub mod Based
pub mod Shown
pub mod HeadFields
pub mod Opens
pub mod Makes
pub mod Walked
mod Held
mod Grown
mod Behind
mod Lists
mod Added
mod Stood
mod Reopened
mod Readied
mod Images
mod Fronts
mod Zeroed
mod Dirty
mod Appended
mod Finished
mod Gates
