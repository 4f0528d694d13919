pub mod Noting
pub mod Ticking
pub mod Rounding
pub mod Showing
