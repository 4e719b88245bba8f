pub mod Fronts
pub mod Pieces
pub mod Spellings
mod Doubling
pub mod Stretches
pub mod Slices
