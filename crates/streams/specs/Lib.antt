pub mod Streams
pub mod Result
pub mod Engine
