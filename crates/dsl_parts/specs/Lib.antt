pub mod Levels
pub mod ExprParts
