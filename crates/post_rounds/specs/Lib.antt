pub mod Rounds
pub mod Hands
pub mod Ends
