pub mod Exactly
pub mod Agree
pub mod Inverse
pub mod Candidate
pub mod Worked
pub mod Steps
pub mod Reading
pub mod Writing
