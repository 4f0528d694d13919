pub mod Boundaries
pub mod WholeText
