pub mod Check
pub mod Remainder
