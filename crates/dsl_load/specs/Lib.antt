pub mod Starts
pub mod Loads
