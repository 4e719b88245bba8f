pub mod Words
pub mod Numbers
pub mod Chosen
pub mod Command
