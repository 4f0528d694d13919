pub mod Evaluating
pub mod Judged
pub mod Looping
pub mod Tasks
