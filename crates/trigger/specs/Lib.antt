pub mod Reading
pub mod Engine
pub mod Worked
pub mod Writing
