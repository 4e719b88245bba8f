mod Leaving
mod Making
mod Idle
