pub mod Depth
pub mod DepthView
