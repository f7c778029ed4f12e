pub mod Stores
pub mod Agree
