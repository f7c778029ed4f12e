pub mod Overlaps
pub mod Engine
pub mod Worked
pub mod Result
