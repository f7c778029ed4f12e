pub mod Worked
pub mod Room
pub mod Result
pub mod Inverse
pub mod Engine
