pub mod Kinds
pub mod Signals
pub mod Fields
pub mod Engine
