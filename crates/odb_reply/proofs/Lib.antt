mod Commas
mod Lines
mod Telling
