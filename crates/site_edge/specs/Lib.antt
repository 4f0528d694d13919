pub mod Fakes
pub mod Lists
pub mod Told
