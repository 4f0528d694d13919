pub mod Nodes
pub mod Values
pub mod Frames
pub mod Visiting
pub mod Finishing
pub mod Loops
pub mod Registering
pub mod Named
