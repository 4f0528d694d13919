pub mod LoadLaws
pub mod Idling
