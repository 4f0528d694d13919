pub mod Keys
pub mod Operators
pub mod TreeKeys
pub mod SyntaxKeys
pub mod ValueKeys
pub mod LoadKeys
pub mod TaskKeys
