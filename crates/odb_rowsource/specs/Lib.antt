pub mod RowSource
pub mod Stand
pub mod Intentions
pub mod Overlay
