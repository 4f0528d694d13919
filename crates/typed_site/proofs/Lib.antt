pub mod DifferLaws
pub mod NameSteps
pub mod SiteLaws
pub mod SoundLaws
