pub mod Operators
pub mod Spelling
