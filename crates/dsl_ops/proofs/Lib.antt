pub mod Among
pub mod Answering
pub mod Differences
pub mod Lists
pub mod Merging
pub mod Rounding
pub mod Shifts
pub mod Written
