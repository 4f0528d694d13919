pub mod Segments
pub mod Telling
pub mod EventForms
pub mod OnSite
pub mod PartByPart
