pub mod Suffixes
pub mod OldestReads
pub mod Early
pub mod Kept
pub mod Windows
pub mod Steps
pub mod Verdicts
