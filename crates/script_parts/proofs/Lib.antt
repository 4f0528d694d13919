mod Joining
mod PartByPart
