pub mod DueOrder
pub mod OnWheel
