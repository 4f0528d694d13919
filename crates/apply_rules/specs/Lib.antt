pub mod Judging
pub mod Keys
pub mod Lawful
pub mod Plain
pub mod Preparations
pub mod Sharing
