pub mod Answering
pub mod Bindings
