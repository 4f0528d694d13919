pub mod Books
pub mod Sights
pub mod Segments
pub mod Made
pub mod Outlooks
pub mod Lent
pub mod Progress
pub mod Many
