pub mod Answers
pub mod Example
pub mod Lines
pub mod Names
pub mod Reading
pub mod Shown
