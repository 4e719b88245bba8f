pub mod Records
pub mod Pieces
pub mod Standing
pub mod Files
pub mod Zeros
pub mod Clearing
pub mod Tails
pub mod Laws
mod Heads
mod Leading
mod Found
mod Closing
mod Walking
mod Gates
mod OpenEnds
mod Opens
mod Recorded
mod Collecting
mod Gathering
