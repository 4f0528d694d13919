pub mod Later
pub mod Named
pub mod Charged
pub mod Called
pub mod Found
pub mod Placed
