pub mod Outcome
pub mod Facts
pub mod Judged
