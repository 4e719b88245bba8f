pub mod Bytes
pub mod Quoted
pub mod Written
pub mod Token
pub mod Next
pub mod Laws
