pub mod Upkeep
pub mod Runs
pub mod Said
