pub mod Lefts
pub mod Looks
pub mod Telling
pub mod Given
