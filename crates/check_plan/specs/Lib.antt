pub mod Plans
pub mod Shown
pub mod Followed
pub mod Rounds
pub mod Walks
