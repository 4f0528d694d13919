pub mod MovedAnswers
pub mod Alike
pub mod Examples
