pub mod ByList
pub mod Bench
