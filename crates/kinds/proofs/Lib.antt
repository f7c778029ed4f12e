pub mod Tests
pub mod Table
pub mod Places
pub mod Fitting
pub mod Ranges
pub mod Steps
pub mod Agree
