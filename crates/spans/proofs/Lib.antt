pub mod Naming
pub mod Search
pub mod Entries
