pub mod KeptItems
pub mod KeptValues
pub mod KeptNodes
pub mod KeptLoads
