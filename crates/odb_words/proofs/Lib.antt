pub mod Appends
pub mod Changes
pub mod Lists
pub mod Makes
pub mod Moves
pub mod Sits
pub mod Told
