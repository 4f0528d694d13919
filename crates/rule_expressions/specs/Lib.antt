pub mod Conditional
pub mod Framed
pub mod Looped
pub mod Named
pub mod Plain
pub mod Preparations
pub mod Seen
