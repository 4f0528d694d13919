pub mod Appends
pub mod Lists
