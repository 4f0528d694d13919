pub mod Plain
pub mod Globals
pub mod Making
