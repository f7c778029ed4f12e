pub mod Laws
pub mod Agree
