pub mod Rows
pub mod Written
pub mod Apart
pub mod Agree
