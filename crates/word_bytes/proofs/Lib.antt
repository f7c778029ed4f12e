pub mod Four
pub mod Back
pub mod Agree
pub mod Inverse
pub mod Fronts
