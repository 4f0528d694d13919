pub mod Tallies
pub mod Known
pub mod Walks
