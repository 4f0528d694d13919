pub mod Slots
pub mod Keeping
pub mod Waiting
pub mod Zipped
