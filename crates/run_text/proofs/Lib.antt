pub mod CommandLaws
pub mod ReadLaws
pub mod ReadingForms
pub mod Writing
