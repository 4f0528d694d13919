pub mod Lasting
pub mod Handing
pub mod Reading
pub mod Writing
