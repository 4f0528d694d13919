pub mod Duplicates
pub mod Keys
pub mod Ordering
pub mod References
pub mod Standing
