pub mod Recurring
pub mod Logs
pub mod Queried
