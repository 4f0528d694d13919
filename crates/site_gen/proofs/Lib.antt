pub mod Texts
pub mod Adding
pub mod Telling
pub mod Turning
pub mod Going
