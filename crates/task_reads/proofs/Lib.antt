pub mod Opened
pub mod Ends
pub mod Given
pub mod Telling
pub mod Finding
pub mod Reading
pub mod Answered
