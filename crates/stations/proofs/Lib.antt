pub mod Gathered
pub mod Agree
pub mod Kept
