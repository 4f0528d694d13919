pub mod Tracing
pub mod Sorting
pub mod Above
pub mod Idle
