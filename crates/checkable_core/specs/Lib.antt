pub mod Contents
pub mod Histories
pub mod HistoryTests
pub mod Keeping
pub mod Drafts
pub mod Entries
pub mod Machines
