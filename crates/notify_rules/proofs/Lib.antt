pub mod Lists
pub mod Telling
pub mod Noting
pub mod Standing
pub mod Decided
pub mod Indexing
