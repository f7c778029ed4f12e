pub mod Codes
pub mod Fields
