pub mod EntryLaws
pub mod EventLaws
pub mod FieldLaws
pub mod FrontLaws
pub mod Loops
pub mod NamesLaws
pub mod OutcomeLaws
pub mod PartLaws
