pub mod Lists
pub mod LookBack
pub mod NamingLemmas
pub mod Starts
pub mod Order
pub mod Together
pub mod Steps
