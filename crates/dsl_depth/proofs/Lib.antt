pub mod DepthLaw
