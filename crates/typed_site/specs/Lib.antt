pub mod Checks
pub mod Depends
pub mod Notifies
pub mod TypedSite
