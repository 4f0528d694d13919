pub mod PartLaws
pub mod NameLaws
pub mod LineLaws
pub mod QueryLaws
pub mod AptLaws
pub mod LoopLaws
pub mod RowLaws
pub mod AnswerLaws
