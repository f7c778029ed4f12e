pub mod Codes
pub mod Entries
