pub mod Laws
pub mod Fronts
