pub mod Listed
pub mod Walking
