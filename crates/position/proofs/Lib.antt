pub mod Whole
pub mod Agree
pub mod Example
pub mod Lacking
pub mod Steps
pub mod Walked
