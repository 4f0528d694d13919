pub mod Calm
pub mod Listings
pub mod Parts
