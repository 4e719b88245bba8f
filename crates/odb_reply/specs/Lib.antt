pub mod Telling
pub mod Unbroken
