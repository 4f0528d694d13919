pub mod LogText
pub mod ReadTurns
pub mod TurnReading
