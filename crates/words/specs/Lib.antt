pub mod Words
pub mod Engine
