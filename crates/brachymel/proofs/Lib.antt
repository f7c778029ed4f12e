pub mod Agree
pub mod Judged
pub mod Early
