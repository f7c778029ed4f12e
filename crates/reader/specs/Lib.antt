pub mod Table
pub mod Result
pub mod Engine
pub mod Padding
