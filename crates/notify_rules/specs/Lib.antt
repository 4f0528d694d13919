pub mod Times
pub mod Sent
pub mod Case
