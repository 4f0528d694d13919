pub mod Climbing
pub mod PartLists
