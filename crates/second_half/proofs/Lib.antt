pub mod Agree
pub mod Reached
