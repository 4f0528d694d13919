pub mod Chains
pub mod Entering
pub mod Same
pub mod Turns
pub mod Held
pub mod CallLaws
