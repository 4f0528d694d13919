pub mod Noted
pub mod Lasting
