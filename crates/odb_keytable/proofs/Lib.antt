pub mod Begins
pub mod RowPlaces
pub mod Folds
pub mod Placings
pub mod Places
