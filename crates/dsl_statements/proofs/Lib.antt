pub mod Steps
pub mod Arms
pub mod Assigning
pub mod Rows
pub mod Leading
