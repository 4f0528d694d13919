pub mod Statuses
pub mod Stops
pub mod Feeds
pub mod Starts
pub mod Courses
pub mod Callers
pub mod Ends
pub mod Logs
