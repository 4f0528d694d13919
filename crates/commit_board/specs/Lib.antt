pub mod Places
pub mod Boards
pub mod Work
