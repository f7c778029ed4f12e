pub mod Held
pub mod Whole
