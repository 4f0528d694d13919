pub mod Reads
pub mod Bare
pub mod Kept
