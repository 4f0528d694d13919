pub mod Bare
pub mod Printing
