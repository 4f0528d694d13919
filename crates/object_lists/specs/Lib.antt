pub mod Listed
pub mod Members
pub mod Periods
pub mod Receivers
pub mod Users
