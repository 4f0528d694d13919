pub mod Ending
pub mod Answering
pub mod OneAnswer
pub mod Remarking
pub mod Completing
