pub mod Calls
pub mod Contents
pub mod Downtime
pub mod Firsts
pub mod Naming
