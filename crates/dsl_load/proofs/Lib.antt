pub mod Beginnings
pub mod Running
