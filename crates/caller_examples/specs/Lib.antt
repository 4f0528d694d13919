pub mod Callers
pub mod Orders
