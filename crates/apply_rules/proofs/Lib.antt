pub mod Behind
pub mod Lasting
pub mod Running
pub mod Shared
