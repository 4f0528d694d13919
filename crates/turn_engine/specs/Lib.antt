pub mod Checkables
pub mod Orders
pub mod Stages
pub mod Ready
pub mod Midst
pub mod Sole
pub mod Told
