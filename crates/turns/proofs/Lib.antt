pub mod Meeting
pub mod Owned
pub mod Order
pub mod Agree
