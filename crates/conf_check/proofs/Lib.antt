pub mod FirstLaws
pub mod KeyLaws
pub mod PlaceLaws
pub mod StandingLaws
