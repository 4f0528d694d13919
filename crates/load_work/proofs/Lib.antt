pub mod Registrations
