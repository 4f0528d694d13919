pub mod Names
pub mod PlainSite
pub mod Sets
pub mod Sound
