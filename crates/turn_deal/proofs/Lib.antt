pub mod Reporting
pub mod LineByLine
pub mod Parting
pub mod PartByPart
pub mod Crossing
pub mod ByCaller
