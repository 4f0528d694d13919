pub mod Grouping
pub mod Lasting
