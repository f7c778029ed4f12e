pub mod Answers
pub mod Engine
pub mod Worked
