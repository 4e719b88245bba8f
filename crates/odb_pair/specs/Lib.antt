pub mod Places
pub mod Standing
pub mod Answers
pub mod CountingPlace
pub mod Same
pub mod Laws
