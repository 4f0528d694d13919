pub mod Front
pub mod Reading
pub mod Seconds
pub mod Splits
pub mod Starting
