pub mod Length
pub mod Engine
