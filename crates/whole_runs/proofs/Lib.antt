pub mod Zones
pub mod Recurring
pub mod Given
pub mod Queried
