pub mod Sites
pub mod Turns
pub mod Rows
pub mod Histories
pub mod Outlooks
pub mod Checks
pub mod Causes
