pub mod Due
pub mod Inside
pub mod Links
pub mod Members
pub mod Rings
pub mod Tree
