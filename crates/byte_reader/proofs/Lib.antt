pub mod Fronts
pub mod Agree
