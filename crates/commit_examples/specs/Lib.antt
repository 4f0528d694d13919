pub mod Parts
pub mod Objects
pub mod Rules
pub mod Groups
pub mod Items
pub mod Evaluations
pub mod Failing
pub mod Sites
