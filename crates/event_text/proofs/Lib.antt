pub mod CheckableLaws
pub mod CommandLaws
pub mod CutLaws
pub mod FieldLaws
pub mod HeadLaws
pub mod LineLaws
pub mod NumberLaws
pub mod StatusLaws
