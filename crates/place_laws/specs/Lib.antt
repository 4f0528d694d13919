pub mod MovedSyntax
pub mod MovedStates
pub mod MovedOutcomes
pub mod Alike
pub mod Examples
