pub mod Syntax
pub mod Lists
pub mod SyntaxView
