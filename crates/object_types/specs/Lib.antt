pub mod Checks
pub mod Lawful
pub mod Names
pub mod Schema
pub mod Values
