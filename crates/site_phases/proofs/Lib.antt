pub mod Bounded
pub mod CycleLaws
pub mod PhaseLaws
pub mod ZoneLaws
