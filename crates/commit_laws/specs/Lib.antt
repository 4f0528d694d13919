pub mod Registered
pub mod Accounts
pub mod Fates
pub mod Numbering
