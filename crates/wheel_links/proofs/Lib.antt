pub mod Changes
pub mod Circles
pub mod Members
pub mod Slots
pub mod Trees
