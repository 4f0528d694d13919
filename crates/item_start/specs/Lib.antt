pub mod Answers
pub mod Bound
pub mod Ready
pub mod Stops
