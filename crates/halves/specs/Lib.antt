pub mod Table
pub mod Engine
