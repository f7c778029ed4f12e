pub mod ResourceLine
pub mod Engine
