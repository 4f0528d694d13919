pub mod Adding
pub mod Strings
pub mod Joining
