pub mod BothOrders
pub mod Orders
pub mod Moves
pub mod HostAndService
pub mod LineAndReport
