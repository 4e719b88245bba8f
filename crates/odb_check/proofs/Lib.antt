pub mod Walks
pub mod Cells
pub mod Listings
