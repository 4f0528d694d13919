pub mod Constants
pub mod CycleFaults
pub mod Phases
