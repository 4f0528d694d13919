pub mod Runs
pub mod TaskAnswers
pub mod Complete
