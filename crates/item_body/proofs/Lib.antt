pub mod Beginning
pub mod Lasting
