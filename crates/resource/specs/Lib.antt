pub mod Names
pub mod Places
pub mod Values
pub mod Index
pub mod Tones
pub mod Engine
