pub mod Traces
pub mod Due
pub mod Idle
