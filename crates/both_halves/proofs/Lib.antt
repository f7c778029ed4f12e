pub mod Accepted
pub mod Halves
