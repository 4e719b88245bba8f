pub mod Spot
pub mod SpotOrder
pub mod Begin
pub mod Table
pub mod Pending
pub mod Committed
pub mod Place
pub mod Rows
