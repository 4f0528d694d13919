pub mod LawfulLaws
pub mod TypeLaws
