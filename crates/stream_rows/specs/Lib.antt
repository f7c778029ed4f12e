pub mod Rows
pub mod Engine
pub mod Worked
pub mod Result
