pub mod Agree
pub mod Screens
