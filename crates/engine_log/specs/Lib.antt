pub mod OnSite
pub mod TurnLines
