pub mod Sealed
pub mod Records
pub mod Judging
pub mod Following
pub mod Prepared
pub mod Turned
