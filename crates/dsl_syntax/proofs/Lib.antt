pub mod SyntaxKinds
pub mod SyntaxRows
pub mod SyntaxLists
