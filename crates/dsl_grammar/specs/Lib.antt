pub mod Codes
pub mod Operators
pub mod Terms
pub mod Grammar
pub mod Reading
pub mod Files
pub mod Table
pub mod Parsing
