pub mod Lawful
pub mod Plain
pub mod ReadsLeft
pub mod Taking
