pub mod Agree
pub mod Sum
