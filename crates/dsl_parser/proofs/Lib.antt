pub mod LoopTurns
pub mod Readings
