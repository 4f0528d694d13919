pub mod AttributeLaws
pub mod RowLaws
pub mod SetLaws
