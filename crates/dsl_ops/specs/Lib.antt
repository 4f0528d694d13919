pub mod Laws
pub mod Members
pub mod Operands
pub mod Outcomes
pub mod Seen
pub mod Table
pub mod Units
