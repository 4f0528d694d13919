pub mod EntryReading
pub mod EntryTwo
pub mod Fronts
pub mod LogLines
pub mod SiteNames
