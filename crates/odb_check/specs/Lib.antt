pub mod Tables
pub mod Told
pub mod Left
pub mod Found
