pub mod Coded
pub mod Groups
pub mod Outcomes
pub mod Equal
