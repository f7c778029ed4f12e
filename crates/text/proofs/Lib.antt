pub mod Agree
pub mod Laws
