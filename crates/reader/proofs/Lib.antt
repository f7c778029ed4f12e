pub mod Halves
pub mod Agree
pub mod Exactly
pub mod Padding
pub mod Stages
pub mod Cut
pub mod Fronts
pub mod Room
