pub mod Ascending
pub mod Moves
pub mod Entries
pub mod Carried
pub mod Examples
