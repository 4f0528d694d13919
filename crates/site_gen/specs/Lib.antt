pub mod Root
pub mod Turns
pub mod Counts
pub mod Counting
pub mod Going
pub mod Lines
