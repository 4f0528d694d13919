pub mod Reordered
pub mod Unordered
pub mod Alike
pub mod Examples
