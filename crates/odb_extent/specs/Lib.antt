pub mod Opened
pub mod Standing
pub mod Answers
pub mod Laws
