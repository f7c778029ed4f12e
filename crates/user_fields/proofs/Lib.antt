pub mod Fields
pub mod Agree
