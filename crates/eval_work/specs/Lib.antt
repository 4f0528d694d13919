pub mod Lists
pub mod Placing
pub mod Works
pub mod Kept
pub mod Stops
