pub mod Dealt
pub mod Parts
