pub mod Agree
pub mod Held
