pub mod Turns
pub mod Engine
