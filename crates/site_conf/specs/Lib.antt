pub mod Walks
pub mod Views
pub mod Sound
pub mod Reads
pub mod Findings
pub mod Telling
