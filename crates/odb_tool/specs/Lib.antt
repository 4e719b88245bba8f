pub mod Words
pub mod Created
pub mod Playing
