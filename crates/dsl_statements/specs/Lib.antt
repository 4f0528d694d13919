pub mod NamedView
pub mod Parts
pub mod Leads
