pub mod Ascending
pub mod Filtered
pub mod Lawful
pub mod Making
