pub mod Sends
pub mod Receiving
pub mod Firsts
pub mod Answering
