pub mod Zones
pub mod Loads
pub mod Configs
pub mod Idle
