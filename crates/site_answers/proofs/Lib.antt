pub mod TurnLogs
pub mod Losing
pub mod Lines
pub mod OneAnswer
