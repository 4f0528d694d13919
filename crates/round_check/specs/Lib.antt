pub mod Shelves
pub mod Making
pub mod Walking
pub mod Ways
pub mod Checked
pub mod Kept
pub mod Ordered
pub mod Answer
