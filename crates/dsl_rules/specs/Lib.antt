pub mod Alphabet
pub mod Rules
pub mod Grammar
pub mod Reading
