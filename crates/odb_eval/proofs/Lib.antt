pub mod Binds
pub mod Folds
