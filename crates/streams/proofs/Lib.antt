pub mod Fields
pub mod Words
pub mod Frame
pub mod Judged
pub mod Agree
