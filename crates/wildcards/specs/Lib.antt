pub mod Described
pub mod Wildcards
