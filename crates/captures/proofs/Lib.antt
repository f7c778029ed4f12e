pub mod Steps
pub mod Exact
pub mod Worked
pub mod Found
pub mod Agree
pub mod Example
