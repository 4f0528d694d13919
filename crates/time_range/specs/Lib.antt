pub mod Clock
pub mod Days
pub mod Period
pub mod Ranges
pub mod Spans
pub mod Zone
