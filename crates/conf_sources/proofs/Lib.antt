pub mod NameLaws
pub mod ListingLaws
pub mod Toldness
pub mod KeyLaws
pub mod KnownLaws
pub mod NamingLaws
pub mod Outcomes
