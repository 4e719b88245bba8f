pub mod ReadingFiles
pub mod ReadingRows
mod Together
mod LateRows
mod Prefix
