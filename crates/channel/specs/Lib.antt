pub mod Layout
pub mod Fields
pub mod Engine
