pub mod Along
pub mod Describing
